-- Every history keeps what holds, and so each event obeys its law.
use Rattle.std.proofs.Common.{◌≡◌, ℕ, ◌<◌, ◌≤◌, Bool, true, false, cond, ltb, ◌⊎◌, [], length, sym, refl, ap, ◌∙◌, subst, inl, inr, arith}
use Rattle.std.proofs.lemmas.Bool.{ltb-true, ltb-false, cases_eq}
use Rattle.suite.specs.Scheme.{Body, Line, Scheme}
use Rattle.machine.specs.Layout.{Shape, TreeLaws, update}
use Rattle.machine.specs.Store.{line_at, Register, Log, BoardState, after_writes, log_after}
use Rattle.machine.specs.Faults.{fault, not_data}
use Rattle.machine.specs.Plans.{Table, View, Run, stop, write_at, write_call, flush_call, dirty_count}
use Rattle.machine.specs.History.{Chip, cold, opened, latched, World, Event, format, bring_up, read, write, flush, shut_down, tamper, recharge, Answer, power_lost_at, after, view_of, counter_in, body_in, shape_of, Ran, Happens, Fair, Replayed, Reached, start, next}
use Rattle.machine.specs.Laws.{NoReuse, Unchanged}
use Rattle.machine.specs.CommitLaws.{SlotsLaw}
use Rattle.machine.specs.Promises.{Within, RegisterSays, Law, KeepsPromises, TreeLayouts}
use Rattle.machine.proofs.Invariant.{Fine}
use Rattle.machine.proofs.Basics.{update_same, update_other}
use Rattle.machine.proofs.Trails.{Trail, end, OpenHolds, ColdHolds, open_to_cold, open_after, after_writes_all, after_writes_some, once_some, SameBoard, register_kept}
use Rattle.machine.proofs.Runs.{wrote, flush_goes}
use Rattle.machine.proofs.Cuts.{cut_le}
use Rattle.machine.proofs.BoardHolds.{FormattedBoard, BoardHolds, Holds}
use Rattle.machine.proofs.WriteLaws.{touched, write_part, flush_part}
use Rattle.machine.proofs.ReadLaws.{read_law}
use Rattle.machine.proofs.Formatting.{format_holds}
use Rattle.machine.proofs.BringUp.{bring_up_holds}
use Rattle.machine.proofs.SlotTable.{write_used, until_used}
use Rattle.machine.proofs.CommitLawHolds.{write_commits, write_beyond, flush_commits}
use Rattle.machine.proofs.BringUpAnswers.{bring_up_law}
use Rattle.machine.proofs.FormatOrder.{format_law}
use Rattle.machine.proofs.RegisterSays.{register_says, slots}

module _ (shapes : ℕ → Shape) (S : Scheme) where
  -- A tampering of a line that is no forgery leaves every line fine.
  tampered_fine : (T : Shape) (l : Log) (m : ℕ → Line) (a : ℕ) (x : Line) → (a < T.lines → Replayed S T l a x) → (q : ℕ) → q < T.lines → Fine shapes T S l m q → Fine shapes T S l (update m a x) q
  tampered_fine T l m a x f q k h = go (cases_eq q a)
    where
      Is : Line → Type 0
      Is y = (y ≡ line_at T S q (counter_in l q) (body_in l q)) ⊎ Replayed S T l q y

      go : (q ≡ a) ⊎ (q ≡ a → ⊥) → Fine shapes T S l (update m a x) q
      go (inl e) = subst Is (sym (update_same m a x q e)) (inr (subst (λ z. Replayed S T l z x) (sym e) (f (omega arith))))
      go (inr e) = subst Is (sym (update_other m a x q e)) h

  module _ (laws : (h : ℕ) → 1 ≤ h → h ≤ 4 → TreeLaws (shapes h)) where
    -- What holds at each point.
    abbrev Point : World → Log → Type 0
    Point w l = Holds shapes S w.chip w.board l × NoReuse l

    safe_on : (size : ℕ) (g h : Register) → SameBoard h g → FormattedBoard shapes S size g → FormattedBoard shapes S size h
    safe_on size g h (m, e, u) s =
        record { formatted = m ∙ s.formatted; low = rw e s.low; high = rw e s.high; fitting = rw e s.fitting; own = u ∙ s.own }

    -- A run of commits, cut anywhere, keeps what holds.
    ran : (cap : ℕ) → 1 ≤ cap → cap ≤ 64 → (t : Table) (b : BoardState) (l : Log) → FormattedBoard shapes S b.size b.register → OpenHolds shapes (shape_of shapes b) S l (view_of b t) → NoReuse l → {Q : ℕ → Type 0} (r : Run) {l₁ : Log} → dirty_count (shape_of shapes b) r.view.table ≤ cap → TreeLaws (shape_of shapes b) → Trail (shape_of shapes b) S Q (view_of b t) l r.planned r.view l₁ → (x : Answer) (w' : World) (l' : Log) → Ran cap r b l x w' l' → Point w' l'
    ran cap cl ch t b l s W O r {l₁} us L tr x w' l' (k, p, c, ex, ew, el) = rw (ew, el) (at (ltb k (length r.planned)) refl, once_some shapes (shape_of shapes b) L S W O tr k)
      where
        same : (j : ℕ) → SameBoard (after_writes j r.planned b).register b.register
        same j = register_kept tr b refl j

        shape : (j : ℕ) → shapes b.register.levels ≡ shapes (after_writes j r.planned b).register.levels
        shape j = ap shapes (sym (same j).1)

        still_open : OpenHolds shapes (shape_of shapes b) S (log_after (length r.planned) r.planned l) (record { memory = (after_writes (length r.planned) r.planned b).memory; register = (after_writes (length r.planned) r.planned b).register; table = r.view.table })
        still_open = let (m, g, e) = after_writes_all shapes (shape_of shapes b) L S tr b refl refl in rw (m, g, e) (open_after shapes (shape_of shapes b) L S W tr)

        at : (d : Bool) → ltb k (length r.planned) ≡ d → Holds shapes S (cond d (latched (power_lost_at k r.planned)) (opened cap r.view.table)) (after b k r.planned p) (log_after k r.planned l)
        at true e =
            inr (
              safe_on b.size b.register (after_writes k r.planned b).register (same k) s,
              subst (λ T. ColdHolds shapes T S (log_after k r.planned l) (after_writes k r.planned b).memory (after_writes k r.planned b).register) (shape k) (after_writes_some shapes (shape_of shapes b) L S W tr b refl refl k),
            )
        at false e =
            let i : length r.planned ≡ k = omega (arith, ltb-false _ _ e, cut_le b.power p (length r.planned) k c) in (
              safe_on b.size b.register (after_writes k r.planned b).register (same k) s,
              subst (λ T. OpenHolds shapes T S (log_after k r.planned l) (record { memory = (after_writes k r.planned b).memory; register = (after_writes k r.planned b).register; table = r.view.table })) (shape k)
                  (subst (λ j. OpenHolds shapes (shape_of shapes b) S (log_after j r.planned l) (record { memory = (after_writes j r.planned b).memory; register = (after_writes j r.planned b).register; table = r.view.table })) i still_open),
              cl,
              ch,
              subst (λ T. dirty_count T r.view.table ≤ cap) (shape k) us,
            )

    -- The slots in use after a write or a flush.
    call_used : {T : Shape} → TreeLaws T → (cap : ℕ) → 1 ≤ cap → (v : View) (a : ℕ) (y : Body) → dirty_count T v.table ≤ cap → dirty_count T (write_call T S cap v a y).view.table ≤ cap
    unfolding write_call
    call_used {T} L cap cl v a y us = go (ltb a T.data_lines) refl
      where
        go : (d : Bool) → ltb a T.data_lines ≡ d → dirty_count T (cond d (write_at T S (T.depth (T.parent a)) cap v a y) (stop v (fault not_data a))).view.table ≤ cap
        go true e = write_used T S L cap v a y (omega (arith, ltb-true _ _ e, L.data_in)) cl us
        go false e = us

    flush_used : {T : Shape} → TreeLaws T → (cap : ℕ) (v : View) → dirty_count T v.table ≤ cap → dirty_count T (flush_call T S v).view.table ≤ cap
    unfolding flush_call
    flush_used {T} L cap v us = omega (arith, until_used T S L 0 T.lines v)

    -- Any run of a write is a chain of commits.
    write_trail : (cap : ℕ) (t : Table) (b : BoardState) (l : Log) → OpenHolds shapes (shape_of shapes b) S l (view_of b t) → TreeLaws (shape_of shapes b) → (a : ℕ) (y : Body) → (l₁ : Log) × Trail (shape_of shapes b) S (λ q. ((shape_of shapes b).data_lines ≤ q) ⊎ (q ≡ a)) (view_of b t) l (write_call (shape_of shapes b) S cap (view_of b t) a y).planned (write_call (shape_of shapes b) S cap (view_of b t) a y).view l₁
    unfolding write_call
    write_trail cap t b l W L a y = go (ltb a T.data_lines) refl
      where
        T : Shape
        T = shape_of shapes b

        r : Bool → Run
        r d = cond d (write_at T S (T.depth (T.parent a)) cap (view_of b t) a y) (stop (view_of b t) (fault not_data a))

        go : (d : Bool) → ltb a T.data_lines ≡ d → (l₁ : Log) × Trail T S (λ q. (T.data_lines ≤ q) ⊎ (q ≡ a)) (view_of b t) l (r d).planned (r d).view l₁
        go true e = let h = ltb-true _ _ e in touched shapes T L S l (view_of b t) W b refl refl a y h (wrote shapes T L S cap l (view_of b t) W a y h)
        go false e = (l, end)

    cold_tamper : (b : BoardState) (l : Log) (a : ℕ) (x : Line) → (b.register.formatted ≡ 1 → a < (shape_of shapes b).lines → Replayed S (shape_of shapes b) l a x) → BoardHolds shapes S b l → BoardHolds shapes S (record { memory = update b.memory a x; size = b.size; register = b.register; power = b.power }) l
    cold_tamper b l a x f (inl z) = inl z
    cold_tamper b l a x f (inr (s, C)) =
        inr (s, record { durable = C.durable; fine = λ q k n. tampered_fine (shape_of shapes b) l b.memory a x (f s.formatted) q k (C.fine q k n) })

    -- One event keeps what holds.
    keeps : (ch : Chip) (b : BoardState) (l : Log) → Holds shapes S ch b l → NoReuse l → (e : Event) (x : Answer) (w' : World) (l' : Log) → Fair shapes S (record { board = b; chip = ch }) l e → Happens shapes S ch b l e x w' l' → Point w' l'
    keeps cold b l H O (format h) x w' l' f s =
        let (c, K, o, _) = format_holds shapes S laws h (record { board = b; chip = cold }) l H O x w' l' s in
        (subst (λ z. Holds shapes S z w'.board l') (sym c) K, o)
    keeps cold b l H O (bring_up cap num) x w' l' f s =
        let (R, e) = bring_up_holds shapes S laws (record { board = b; chip = cold }) l H cap num x w' l' s in
        rw e (R.0, O)
    keeps cold b l H O (recharge p) x w' l' f (ex, ew, el) = rw (ew, el) (H, O)
    keeps cold b l H O (read a) x w' l' f s = absurd s
    keeps cold b l H O (write a y) x w' l' f s = absurd s
    keeps cold b l H O flush x w' l' f s = absurd s
    keeps cold b l H O shut_down x w' l' f s = absurd s
    keeps cold b l H O (tamper a y) x w' l' f (ex, ew, el) = rw (ew, el) (cold_tamper b l a y f H, O)
    keeps (opened cap t) b l H O (format h) x w' l' f s = absurd s
    keeps (opened cap t) b l H O (bring_up c num) x w' l' f s = absurd s
    keeps (opened cap t) b l H O (recharge p) x w' l' f s = absurd s
    keeps (opened cap t) b l H O (read a) x w' l' f (ex, ew, el) = rw (ew, el) (H, O)
    keeps (opened cap t) b l (s, W, cl, ch, us) O (write a y) x w' l' f r =
        let L = laws b.register.levels s.low s.high in
        ran cap cl ch t b l s W O (write_call (shape_of shapes b) S cap (view_of b t) a y) (call_used L cap cl (view_of b t) a y us) L (write_trail cap t b l W L a y).1 x w' l' r
    keeps (opened cap t) b l (s, W, cl, ch, us) O flush x w' l' f r =
        let L = laws b.register.levels s.low s.high in
        ran cap cl ch t b l s W O (flush_call (shape_of shapes b) S (view_of b t)) (flush_used L cap (view_of b t) us) L (flush_goes shapes (shape_of shapes b) L S l (view_of b t) W).trail x w' l' r
    keeps (opened cap t) b l (s, W, cl, ch, us) O shut_down x w' l' f (ex, ew, el) = rw (ew, el) (inr (s, open_to_cold shapes (shape_of shapes b) S W), O)
    keeps (opened cap t) b l (s, W, cl, ch, us) O (tamper a y) x w' l' f (ex, ew, el) =
        rw (ew, el) ((s, record { durable = W.durable; slots_hold = W.slots_hold; fine = λ q k. tampered_fine (shape_of shapes b) l b.memory a y (f s.formatted) q k (W.fine q k) }, cl, ch, us), O)
    keeps (latched r) b l H O (format h) x w' l' f s = absurd s
    keeps (latched r) b l H O (bring_up c num) x w' l' f s = absurd s
    keeps (latched r) b l H O (recharge p) x w' l' f s = absurd s
    keeps (latched r) b l H O (read a) x w' l' f (ex, ew, el) = rw (ew, el) (H, O)
    keeps (latched r) b l H O (write a y) x w' l' f (ex, ew, el) = rw (ew, el) (H, O)
    keeps (latched r) b l H O flush x w' l' f (ex, ew, el) = rw (ew, el) (H, O)
    keeps (latched r) b l H O shut_down x w' l' f (ex, ew, el) = rw (ew, el) (H, O)
    keeps (latched r) b l H O (tamper a y) x w' l' f (ex, ew, el) = rw (ew, el) (cold_tamper b l a y f H, O)

    -- What holds at each point of a history.
    pub holds : {w : World} {l : Log} → Reached shapes S w l → Point w l
    holds (start w u c) = (subst (λ z. Holds shapes S z w.board []) (sym c) (inl (u, refl)), tt)
    holds (next {w} {l} R e x w' l' f s) = let H = holds R in keeps w.chip w.board l H.0 H.1 e x w' l' f s

    within : (ch : Chip) (b : BoardState) (l : Log) → Holds shapes S ch b l → Within (shape_of shapes b) ch
    within cold b l H = tt
    within (latched r) b l H = tt
    within (opened cap t) b l (s, W, cl, ch, us) = (cl, ch, us)

    says_cold : (b : BoardState) (l : Log) → BoardHolds shapes S b l → RegisterSays shapes S b l
    says_cold b l (inl z) = inl z
    says_cold b l (inr (s, C)) = inr (s.formatted, register_says (shape_of shapes b) S l b.register C.durable s.own)

    says : (ch : Chip) (b : BoardState) (l : Log) → Holds shapes S ch b l → RegisterSays shapes S b l
    says cold b l H = says_cold b l H
    says (latched r) b l H = says_cold b l H
    says (opened cap t) b l (s, W, cl, ch, us) = inr (s.formatted, register_says (shape_of shapes b) S l b.register W.durable s.own)

    slots_say : (ch : Chip) (b : BoardState) (l : Log) → Holds shapes S ch b l → SlotsLaw (shape_of shapes b) ch l
    slots_say cold b l H = tt
    slots_say (latched r) b l H = tt
    slots_say (opened cap t) b l (s, W, cl, ch, us) = slots (shape_of shapes b) S l b.register W.durable t W.slots_hold

    same : (w : World) (l : Log) (ch : Chip) (w' : World) (l' : Log) → w' ≡ record { board = w.board; chip = ch } → l' ≡ l → Unchanged w ch l w' l'
    same w l ch w' l' e f = (ap (λ z. z.board) e, ap (λ z. z.chip) e, f)

    -- One event obeys its law.
    obeys : (w : World) (l : Log) (ch : Chip) → Holds shapes S ch w.board l → NoReuse l → (e : Event) (x : Answer) (w' : World) (l' : Log) → Happens shapes S ch w.board l e x w' l' → Law shapes S w l ch e x w' l'
    obeys w l cold H O (format h) x w' l' s = format_law shapes S h w l H O laws x w' l' s
    obeys w l cold H O (bring_up cap num) x w' l' s = bring_up_law shapes S laws cap num w l H x w' l' s
    obeys w l cold H O (recharge p) x w' l' s = tt
    obeys w l cold H O (read a) x w' l' s = tt
    obeys w l cold H O (write a y) x w' l' s = tt
    obeys w l cold H O flush x w' l' s = tt
    obeys w l cold H O shut_down x w' l' s = tt
    obeys w l cold H O (tamper a y) x w' l' s = tt
    obeys w l (opened cap t) H O (format h) x w' l' s = tt
    obeys w l (opened cap t) H O (bring_up c num) x w' l' s = tt
    obeys w l (opened cap t) H O (recharge p) x w' l' s = tt
    obeys w l (opened cap t) (sf, W, cl, ch, us) O (read a) x w' l' s = (read_law shapes S w (laws _ sf.low sf.high) t l W a x s.0, same w l (opened cap t) w' l' s.1 s.2)
    obeys w l (opened cap t) (sf, W, cl, ch, us) O (write a y) x w' l' s =
        let L = laws _ sf.low sf.high in
        let z = write_part shapes S w L cap t l W a y x w' l' s in
        record { beyond = λ h. write_beyond shapes S w L cap t l W a y h x w' l' s; commits = λ h. write_commits shapes S w L cap t l W a y h x w' l' s; committed = z.committed; half = z.half; keeps = z.keeps }
    obeys w l (opened cap t) (sf, W, cl, ch, us) O flush x w' l' s =
        let L = laws _ sf.low sf.high in
        let z = flush_part shapes S w L cap t l W x w' l' s in
        record { commits = flush_commits shapes S w L cap t l W x w' l' s; clean = z.clean; keeps = z.keeps }
    obeys w l (opened cap t) H O shut_down x w' l' s = (s.0, same w l cold w' l' s.1 s.2)
    obeys w l (opened cap t) H O (tamper a y) x w' l' s = tt
    obeys w l (latched r) H O (format h) x w' l' s = tt
    obeys w l (latched r) H O (bring_up c num) x w' l' s = tt
    obeys w l (latched r) H O (recharge p) x w' l' s = tt
    obeys w l (latched r) H O (read a) x w' l' s = (s.0, same w l (latched r) w' l' s.1 s.2)
    obeys w l (latched r) H O (write a y) x w' l' s = (s.0, same w l (latched r) w' l' s.1 s.2)
    obeys w l (latched r) H O flush x w' l' s = (s.0, same w l (latched r) w' l' s.1 s.2)
    obeys w l (latched r) H O shut_down x w' l' s = (s.0, same w l cold w' l' s.1 s.2)
    obeys w l (latched r) H O (tamper a y) x w' l' s = tt

-- The theorem, for every family of layouts that obeys the tree laws.
pub keeps_promises : (shapes : ℕ → Shape) → TreeLayouts shapes → KeepsPromises shapes
keeps_promises shapes laws S w l R =
    let H = holds shapes S laws R in
    record {
      no_reuse = H.1;
      register = says shapes S laws w.chip w.board l H.0;
      slots = slots_say shapes S laws w.chip w.board l H.0;
      within = within shapes S laws w.chip w.board l H.0;
      next = λ e x w' l' s. obeys shapes S laws w l w.chip H.0 H.1 e x w' l' s;
    }
