-- The history theorem at a call: what a call does keeps every history that came to it.
use Rattle.std.proofs.Common.{◌≡◌, ℕ, zero, suc, ◌^◌, ◌<◌, ◌≤◌, Bool, true, false, cond, ◌&&◌, ◌||◌, eqb, ltb, leb, ◌⊎◌, length, Some, None, Option as Maybe, sym, refl, ap, ◌∙◌, subst, inl, inr, arith}
use mathlib.Core.Option.{Option, some, none}
use Rattle.std.proofs.lemmas.Bool.{le-leb, lt-ltb, le-ltb, eq-eqb, ne_eqb, cases_eq}
use Rattle.suite.specs.Scheme.{Body, Scheme}
use Rattle.board.specs.Meaning.{Meaning}
use Rattle.machine.specs.Layout.{eight_ary, lines_of}
use Rattle.machine.specs.Store.{Log}
use Rattle.machine.specs.Words.{row, register_in, state_in}
use Rattle.machine.specs.Faults.{Fault as Why, fault, bad_size, too_few_lines, invalid_register, already_formatted}
use Rattle.machine.specs.Plans.{Table, Run, read_call}
use Rattle.machine.specs.History.{World, Event, format, read, write, flush, shut_down, Answer, nothing, read_answer, format_check, Formatted, Fair, Step, Reached}
use Rattle.machine.proofs.Basics.{none≢some}
use Rattle.machine.proofs.EightAry.{eight_trees}
use Rattle.machine.proofs.HistoryHolds.{keeps_promises}
use Rattle.machine.proofs.ReachedFacts.{open_facts, step_law}
use Rattle.controller.specs.declared.types.Fault.{Fault}
use Rattle.controller.specs.declared.chip.Chip.{Chip}
use Rattle.tree.specs.SlotTable.{table_in}
use Rattle.controller.specs.Views.{view_in}
use Rattle.controller.specs.Worlds.{world_by, world_in, cold_in, Keeps, KeepsLatched, call_check, RunsAs, Does, write_plan, flush_plan, read_by, read_of, FormatsAs, Formats}
use Rattle.controller.proofs.SlotFacts.{first_slot}

-- An event that happened, in every history that came here, goes on.
pub keeps : (S : Scheme) (w : World) (e : Event) (x : Answer) (w' : World) → ((l : Log) → Reached eight_ary S w l → (l' : Log) × Fair eight_ary S w l e × Step eight_ary S w l e x w' l') → Keeps S w e x w'
keeps S w e x w' f l R =
    let (l', q, s) = f l R in
    let (y, R') = step_law S R e x w' l' q s in
    (l', record { step = s; law = y; reached = R'; holds = keeps_promises eight_ary eight_trees S w' l' R' })

-- The check before the steps passes.
pub check_ok : (m : Meaning) (lv n : ℕ) → 1 ≤ row m.register 1 → row m.register 1 ≤ 4 → lines_of (row m.register 1) ≤ length m.lines → (0 < n → row m.register 1 ≡ lv) → call_check m lv n ≡ none
unfolding call_check
check_ok m lv n low high enough own =
    (λ i. cond (le-leb 1 (row m.register 1) low i && le-leb (row m.register 1) 4 high i) (cond (le-leb (lines_of (row m.register 1)) (length m.lines) enough i) (cond (eqb n 0 || eqb (row m.register 1) lv) none (some (fault invalid_register 0))) (some (fault too_few_lines 0))) (some (fault invalid_register 0)))
    ∙ go (cases_eq n 0)
  where
    or : (b : Bool) → cond (b || true) none (some (fault invalid_register 0)) ≡ none
    or true = refl
    or false = refl

    go : (n ≡ 0) ⊎ (n ≡ 0 → ⊥) → cond (eqb n 0 || eqb (row m.register 1) lv) none (some (fault invalid_register 0)) ≡ none
    go (inl e) = ap (λ b. cond (b || eqb (row m.register 1) lv) none (some (fault invalid_register 0))) (eq-eqb n 0 e)
    go (inr e) = ap (λ b. cond (eqb n 0 || b) none (some (fault invalid_register 0))) (eq-eqb (row m.register 1) lv (own (omega (arith, e)))) ∙ or (eqb n 0)

-- The levels whose nodes have an address are one.
level_of : ℕ → ℕ
level_of p = cond (ltb p 64) 1 (cond (ltb p 512) 2 (cond (ltb p 4096) 3 4))

at_level : (h p : ℕ) → 1 ≤ h → h ≤ 4 → 8 ^ h ≤ p → p < lines_of h → level_of p ≡ h
unfolding level_of
at_level zero p a b c d = absurd (omega arith)
at_level (suc zero) p a b c d = rw (lt-ltb p 64 (omega arith)) refl
at_level (suc (suc zero)) p a b c d = rw (le-ltb p 64 (omega arith), lt-ltb p 512 (omega arith)) refl
at_level (suc (suc (suc zero))) p a b c d = rw (le-ltb p 64 (omega arith), le-ltb p 512 (omega arith), lt-ltb p 4096 (omega arith)) refl
at_level (suc (suc (suc (suc zero)))) p a b c d = rw (le-ltb p 64 (omega arith), le-ltb p 512 (omega arith), le-ltb p 4096 (omega arith)) refl
at_level (suc (suc (suc (suc (suc h))))) p a b c d = absurd (omega arith)

one_level : (h k p : ℕ) → 1 ≤ h → h ≤ 4 → 1 ≤ k → k ≤ 4 → 8 ^ h ≤ p → p < lines_of h → 8 ^ k ≤ p → p < lines_of k → k ≡ h
one_level h k p a b c d e f i j = sym (at_level k p c d i j) ∙ at_level h p a b e f

module _ (S : Scheme) (m : Meaning) (c : Chip) where
  abbrev t : Table
  t = table_in c.slots

  -- In a history, the slots in use are of the board's levels.
  slots_own : (l : Log) → Reached eight_ary S (world_by m None c.capacity (table_in c.slots)) l → 0 < c.slots.used → row m.register 1 ≡ c.slots.layout.levels
  unfolding register_in
  slots_own l R k =
      let F = open_facts S R refl in
      let (p, x, e, n, r) = first_slot c.slots k in
      let Q = F.slots p x e in
      one_level c.slots.layout.levels (row m.register 1) p c.slots.layout.low c.slots.layout.high F.board.low F.board.high n r Q.node Q.inside

  -- So the check before the steps passes.
  check_passes : (l : Log) → Reached eight_ary S (world_by m None c.capacity (table_in c.slots)) l → call_check m c.slots.layout.levels c.slots.used ≡ none
  unfolding register_in
  check_passes l R =
      let F = (open_facts S R refl).board in
      check_ok m c.slots.layout.levels c.slots.used F.low F.high F.fitting (slots_own l R)

  -- A write.
  pub write_kept : (a : ℕ) (b : Body) (x : Answer) (m' : Meaning) (c' : Chip) → Does (write_plan S m c a b) m c x m' c' → Keeps S (world_in m c) (write a b) x (world_in m' c')
  unfolding register_in
  write_kept a b x m' c' D = kept c.latched D
    where
      kept : (s : Maybe Fault) → RunsAs s (call_check m c.slots.layout.levels c.slots.used) m c.capacity (table_in c.slots) (write_plan S m c a b) x m' (world_in m' c') → Keeps S (world_by m s c.capacity (table_in c.slots)) (write a b) x (world_in m' c')
      kept (Some f) (ex, em, ew) = keeps S (world_by m (Some f) c.capacity (table_in c.slots)) (write a b) x (world_in m' c') (λ l R. (l, tt, (ex, ew, refl)))
      kept None D =
          keeps S (world_by m None c.capacity (table_in c.slots)) (write a b) x (world_in m' c')
          (λ l R. let q = (subst (λ (o : Option Why). RunsAs None o m c.capacity (table_in c.slots) (write_plan S m c a b) x m' (world_in m' c')) (check_passes l R) D).0 l in (q.0, tt, q.1))

  -- A flush.
  pub flush_kept : (x : Answer) (m' : Meaning) (c' : Chip) → Does (flush_plan S m c) m c x m' c' → Keeps S (world_in m c) flush x (world_in m' c')
  unfolding register_in
  flush_kept x m' c' D = kept c.latched D
    where
      kept : (s : Maybe Fault) → RunsAs s (call_check m c.slots.layout.levels c.slots.used) m c.capacity (table_in c.slots) (flush_plan S m c) x m' (world_in m' c') → Keeps S (world_by m s c.capacity (table_in c.slots)) flush x (world_in m' c')
      kept (Some f) (ex, em, ew) = keeps S (world_by m (Some f) c.capacity (table_in c.slots)) flush x (world_in m' c') (λ l R. (l, tt, (ex, ew, refl)))
      kept None D =
          keeps S (world_by m None c.capacity (table_in c.slots)) flush x (world_in m' c')
          (λ l R. let q = (subst (λ (o : Option Why). RunsAs None o m c.capacity (table_in c.slots) (flush_plan S m c) x m' (world_in m' c')) (check_passes l R) D).0 l in (q.0, tt, q.1))

  -- A call under a latched fault, whatever the suite and the plan.
  pub write_latched : (r : Run) (a : ℕ) (b : Body) (x : Answer) (m' : Meaning) (c' : Chip) → Does r m c x m' c' → KeepsLatched c.latched (world_in m c) (write a b) x (world_in m' c')
  write_latched r a b x m' c' D f e K =
      let (ex, em, ew) = subst (λ (s : Maybe Fault). RunsAs s (call_check m c.slots.layout.levels c.slots.used) m c.capacity (table_in c.slots) r x m' (world_in m' c')) e D in
      subst (λ (s : Maybe Fault). Keeps K (world_by m s c.capacity (table_in c.slots)) (write a b) x (world_in m' c')) (sym e) (keeps K (world_by m (Some f) c.capacity (table_in c.slots)) (write a b) x (world_in m' c') (λ l R. (l, tt, (ex, ew, refl))))

  pub flush_latched : (r : Run) (x : Answer) (m' : Meaning) (c' : Chip) → Does r m c x m' c' → KeepsLatched c.latched (world_in m c) flush x (world_in m' c')
  flush_latched r x m' c' D f e K =
      let (ex, em, ew) = subst (λ (s : Maybe Fault). RunsAs s (call_check m c.slots.layout.levels c.slots.used) m c.capacity (table_in c.slots) r x m' (world_in m' c')) e D in
      subst (λ (s : Maybe Fault). Keeps K (world_by m s c.capacity (table_in c.slots)) flush x (world_in m' c')) (sym e) (keeps K (world_by m (Some f) c.capacity (table_in c.slots)) flush x (world_in m' c') (λ l R. (l, tt, (ex, ew, refl))))

  pub read_latched : (a : ℕ) (x : Answer) → x ≡ read_of S m c a → KeepsLatched c.latched (world_in m c) (read a) x (world_in m c)
  read_latched a x d f e K =
      subst (λ (s : Maybe Fault). Keeps K (world_by m s c.capacity (table_in c.slots)) (read a) x (world_by m s c.capacity (table_in c.slots))) (sym e)
      (keeps K (world_by m (Some f) c.capacity (table_in c.slots)) (read a) x (world_by m (Some f) c.capacity (table_in c.slots)) (λ l R. (l, tt, (d ∙ ap (λ (s : Maybe Fault). read_by s (call_check m c.slots.layout.levels c.slots.used) (read_answer (read_call (eight_ary (row m.register 1)) S (view_in m (table_in c.slots)) a))) e, refl, refl))))

  -- A read.
  pub read_kept : (a : ℕ) (x : Answer) → x ≡ read_of S m c a → Keeps S (world_in m c) (read a) x (world_in m c)
  unfolding register_in
  read_kept a x e = kept c.latched e
    where
      found : Answer
      found = read_answer (read_call (eight_ary (row m.register 1)) S (view_in m (table_in c.slots)) a)

      kept : (s : Maybe Fault) → x ≡ read_by s (call_check m c.slots.layout.levels c.slots.used) (read_answer (read_call (eight_ary (row m.register 1)) S (view_in m (table_in c.slots)) a)) → Keeps S (world_by m s c.capacity (table_in c.slots)) (read a) x (world_by m s c.capacity (table_in c.slots))
      kept (Some f) e = keeps S (world_by m (Some f) c.capacity (table_in c.slots)) (read a) x (world_by m (Some f) c.capacity (table_in c.slots)) (λ l R. (l, tt, (e, refl, refl)))
      kept None e =
          keeps S (world_by m None c.capacity (table_in c.slots)) (read a) x (world_by m None c.capacity (table_in c.slots))
          (λ l R. (l, tt, (e ∙ ap (λ (o : Option Why). read_by None o (read_answer (read_call (eight_ary (row m.register 1)) S (view_in m (table_in c.slots)) a))) (check_passes l R), refl, refl)))

  -- A shut-down.
  pub shut_down_kept : Keeps S (world_in m c) shut_down nothing (cold_in m)
  shut_down_kept = kept c.latched
    where
      kept : (s : Maybe Fault) → Keeps S (world_by m s c.capacity (table_in c.slots)) shut_down nothing (cold_in m)
      kept (Some f) = keeps S (world_by m (Some f) c.capacity (table_in c.slots)) shut_down nothing (cold_in m) (λ l R. (l, tt, (refl, refl, refl)))
      kept None = keeps S (world_by m None c.capacity (table_in c.slots)) shut_down nothing (cold_in m) (λ l R. (l, tt, (refl, refl, refl)))

-- A format.
pub format_kept : (S : Scheme) (h : ℕ) (m : Meaning) (x : Answer) (m' : Meaning) → Formats S h m x m' → Keeps S (cold_in m) (format h) x (cold_in m')
format_kept S h m x m' D = keeps S (cold_in m) (format h) x (cold_in m') (λ l R. let q = kept (format_check eight_ary h (state_in m)) D l in (q.0, tt, q.1))
  where
    kept : (o : Option Why) → FormatsAs S h o m x m' → (l : Log) → (l' : Log) × Formatted eight_ary S h (state_in m) o l x (cold_in m') l'
    kept (some y) (ex, em) l = (l, (ex, ap cold_in em, refl))
    kept none D l = D l

-- A format of a board that is formatted is refused alike under every suite.
pub format_others : (S : Scheme) (h : ℕ) (m : Meaning) (x : Answer) (m' : Meaning) → Formats S h m x m' → (K : Scheme) → (row m.register 0 ≡ 0 → ⊥) → Keeps K (cold_in m) (format h) x (cold_in m')
unfolding format_check register_in
format_others S h m x m' D K n = format_kept K h m x m' (alike (format_check eight_ary h (state_in m)) (refuses (leb 1 h && leb h 4) (leb (lines_of h) (length m.lines)) (eqb (row m.register 0) 0) (ne_eqb (row m.register 0) 0 n)) D)
  where
    refuses : (a b d : Bool) → d ≡ false → (y : Why) × (cond a (cond b (cond d none (some (fault already_formatted 0))) (some (fault too_few_lines 0))) (some (fault bad_size 0)) ≡ some y)
    refuses false b d e = (fault bad_size 0, refl)
    refuses true false d e = (fault too_few_lines 0, refl)
    refuses true true d e = (fault already_formatted 0, ap (λ z. cond z none (some (fault already_formatted 0))) e)

    alike : (o : Option Why) → (y : Why) × (o ≡ some y) → FormatsAs S h o m x m' → FormatsAs K h o m x m'
    alike (some y) e D = D
    alike none (y, e) D = absurd (none≢some e)
