-- The law of commits leaves no choice but where power is lost: one answer, one log, one memory.
use Rattle.std.proofs.Common.{◌≡◌, ℕ, suc, ◌<◌, ◌≤◌, Bool, false, ◌&&◌, ltb, ◌⊎◌, [], ◌∷◌, ◌++◌, length, sym, refl, ap, ◌∙◌, subst, inl, inr, ⊎_elim, arith}
use mathlib.Core.Path.{fun_ext}
use mathlib.Core.Option.{some}
use Rattle.std.proofs.lemmas.Bool.{cases_eq}
use Rattle.std.proofs.lemmas.List.{append-nil, length-append}
use Rattle.suite.specs.Scheme.{Body, Line, Scheme}
use Rattle.machine.specs.Layout.{Shape}
use Rattle.machine.specs.Store.{line_at, Commit, Log}
use Rattle.machine.specs.Faults.{Fault, fault, power_lost, corrupt, at_limit}
use Rattle.machine.specs.History.{World, Answer, done, refused, counter_in, body_in, InLog}
use Rattle.machine.specs.Laws.{Stands, Rests, itself, above}
use Rattle.machine.specs.CommitLaws.{Written, EvictedUntil, pending_in, with_next, to_come, newest, Checked, none_yet, then, InHand, corrupt_above, limit_reached, before_register, before_line, CommitLaw, RegisterLaw}
use Rattle.machine.specs.Promises.{NotLost, SameOutcome, LawsDecide}
use Rattle.machine.proofs.Basics.{some_inj, none≢some}
use Rattle.machine.proofs.CommitKeeps.{counter_new, counter_old, body_old, counter_mono}
use Rattle.machine.proofs.TrustedCounter.{rests_split}
use Rattle.machine.proofs.CommitOrder.{to_come_front}
use Rattle.machine.proofs.Determined.{written_one, freed_one}

-- Of two ends of one list, one is the other with something in front.
abbrev head_of : Commit → Log → Commit
head_of d [] = d
head_of d (x ∷ xs) = x

abbrev tail_of : Log → Log
tail_of [] = []
tail_of (x ∷ xs) = xs

abbrev Ends : Log → Log → Log → Log → Type 0
Ends xs ys j k = ((m : Log) × (xs ≡ ys ++ m) × (k ≡ m ++ j)) ⊎ ((m : Log) × (ys ≡ xs ++ m) × (j ≡ m ++ k))

two_ends : (xs ys j k : Log) → xs ++ j ≡ ys ++ k → Ends xs ys j k
two_ends [] ys j k e = inr (ys, refl, e)
two_ends (x ∷ xs) [] j k e = inl (x ∷ xs, refl, sym e)
two_ends (x ∷ xs) (y ∷ ys) j k e = go (two_ends xs ys j k (ap tail_of e))
  where
    h : x ≡ y
    h = ap (head_of x) e

    go : Ends xs ys j k → Ends (x ∷ xs) (y ∷ ys) j k
    go (inl (m, f, g)) = inl (m, ap (λ z. x ∷ z) f ∙ ap (λ z. z ∷ (ys ++ m)) h, g)
    go (inr (m, f, g)) = inr (m, ap (λ z. y ∷ z) f ∙ ap (λ z. z ∷ (xs ++ m)) (sym h), g)

-- Lines that one line rests on lie on one way up.
one_way : {T : Shape} {dirty : ℕ → Bool} {a p q : ℕ} → Rests T dirty a p → Rests T dirty a q → Rests T dirty p q ⊎ Rests T dirty q p
one_way itself r = inl r
one_way {T} {dirty} {a} {p} {q} (above {q = s} x k u) r = go (one_way x r)
  where
    at : (q ≡ s) ⊎ ((T.parent s < T.lines) × (dirty (T.parent s) ≡ false) × Rests T dirty (T.parent s) q) → Rests T dirty (T.parent s) q ⊎ Rests T dirty q (T.parent s)
    at (inl e) = inr (subst (λ z. Rests T dirty z (T.parent s)) (sym e) (above itself k u))
    at (inr z) = inl z.2

    go : Rests T dirty s q ⊎ Rests T dirty q s → Rests T dirty (T.parent s) q ⊎ Rests T dirty q (T.parent s)
    go (inl y) = at (rests_split y)
    go (inr y) = inr (above y k u)

module _ (S : Scheme) (T : Shape) (m₀ : ℕ → Line) (l : Log) where
  -- What the log of checked commits says of the lines not committed since.
  since : {k : Log} → Checked S T m₀ l k → (p : ℕ) → (counter_in l p ≤ counter_in k p) × (counter_in k p ≡ counter_in l p → body_in k p ≡ body_in l p)
  since none_yet p = (omega arith, λ _. refl)
  since (then {k} a b x c) p = go (since x p) (cases_eq p a)
    where
      E : Commit
      E = record { at = a; counter = suc (counter_in k a); body = b }

      go : (counter_in l p ≤ counter_in k p) × (counter_in k p ≡ counter_in l p → body_in k p ≡ body_in l p) → (p ≡ a) ⊎ (p ≡ a → ⊥) → (counter_in l p ≤ counter_in (E ∷ k) p) × (counter_in (E ∷ k) p ≡ counter_in l p → body_in (E ∷ k) p ≡ body_in l p)
      go (i, f) (inl e) = (
        omega (arith, i, counter_mono k E refl p),
        λ h. absurd (omega (arith, i, h, counter_new k E p e, ap (counter_in k) e)),
      )
      go (i, f) (inr e) = (omega (arith, i, counter_old k E p e), λ h. body_old k E p e ∙ f (sym (counter_old k E p e) ∙ h))

  -- The dirty map as the log has it.
  abbrev dirty_at : Log → ℕ → Bool
  dirty_at k p = ltb p T.lines && ltb 0 (pending_in T k p)

  -- The way of the commit that came next after log j was found to stand.
  abbrev WayChecked : Log → ℕ → Type 0
  WayChecked j q = (u : ℕ) → Rests T (dirty_at j) q u → (u ≡ q → ⊥) → counter_in j u ≡ counter_in l u → Stands T S l m₀ u

  -- A log of checked commits is the one of the start, or ends in a commit.
  last_of : {k : Log} → Checked S T m₀ l k → (k ≡ l) ⊎ ((i : Log) × (a : ℕ) × (b : Body) × (k ≡ with_next i a b) × Checked S T m₀ l i × WayChecked i a)
  last_of none_yet = inl refl
  last_of (then {k} a b x c) = inr (k, a, b, refl, x, c)

  -- The first commit after log j, of those that lead on.
  abbrev Next : Log → Log → ℕ → Type 0
  Next m j q = (to_come m ≡ some q) × WayChecked j q × ((b : Body) × InLog (m ++ j) q (suc (counter_in j q)) b)

  first_after : (m j new : Log) (e : Commit) → j ≡ new ++ l → Checked S T m₀ l (e ∷ (m ++ j)) → (q : ℕ) × Next (e ∷ m) j q
  unfolding to_come
  first_after [] j new e h x = go (last_of x)
    where
      go : (e ∷ j ≡ l) ⊎ ((i : Log) × (a : ℕ) × (b : Body) × (e ∷ j ≡ with_next i a b) × Checked S T m₀ l i × WayChecked i a) → (q : ℕ) × ((to_come (e ∷ []) ≡ some q) × WayChecked j q × ((b : Body) × InLog (e ∷ j) q (suc (counter_in j q)) b))
      go (inl f) = absurd (omega (arith, ap length f, ap length h, length-append new l))
      go (inr (i, a, b, f, c, y)) =
          let t : j ≡ i = ap tail_of f in
          let g : e ≡ record { at = a; counter = suc (counter_in i a); body = b } = ap (head_of e) f in
          (a, (ap (λ z. some z.at) g, subst (λ z. WayChecked z a) (sym t) y, (b, inl (ap (λ z. z.at) g, ap (λ z. z.counter) g ∙ ap (λ z. suc (counter_in z a)) (sym t), ap (λ z. z.body) g))))
  first_after (d ∷ m) j new e h x = go (last_of x) (first_after m j new d h)
    where
      go : (e ∷ (d ∷ (m ++ j)) ≡ l) ⊎ ((i : Log) × (a : ℕ) × (b : Body) × (e ∷ (d ∷ (m ++ j)) ≡ with_next i a b) × Checked S T m₀ l i × WayChecked i a) → (Checked S T m₀ l (d ∷ (m ++ j)) → (q : ℕ) × Next (d ∷ m) j q) → (q : ℕ) × ((to_come (e ∷ d ∷ m) ≡ some q) × WayChecked j q × ((b : Body) × InLog (e ∷ (d ∷ (m ++ j))) q (suc (counter_in j q)) b))
      go (inl f) ih = absurd (omega (arith, ap length f, length-append m j, ap length h, length-append new l))
      go (inr (i, a, b, f, c, y)) ih = let (q, (u, w, (b', z))) = ih (subst (Checked S T m₀ l) (sym (ap tail_of f)) c) in (q, (u, w, (b', inr z)))

module _ (S : Scheme) (T : Shape) (cap : ℕ) (Full : Log → Log → Type 0) (w : World) (l : Log) (one : (j k : Log) → Full l j → Full l k → j ≡ k) where
  abbrev m₀ : ℕ → Line
  m₀ = w.board.memory

  -- The dirty map of the register is that of the log.
  map_is : (u : World) (j : Log) → RegisterLaw S T u.board.register j → u.board.register.dirty ≡ dirty_at S T m₀ l j
  map_is u j R = fun_ext R.dirty

  module _ {x : Answer} {u : World} {j : Log} (nx : NotLost x) (R : RegisterLaw S T u.board.register j) (C : CommitLaw S T cap Full w l x u j) where
    -- A line that was found to stand and was not committed stands still, and one that was committed stands.
    stands_now : (p : ℕ) → (counter_in j p ≡ counter_in l p → Stands T S l m₀ p) → Stands T S j u.board.memory p
    stands_now p f = go (cases_eq (counter_in j p) (counter_in l p))
      where
        go : (counter_in j p ≡ counter_in l p) ⊎ (counter_in j p ≡ counter_in l p → ⊥) → Stands T S j u.board.memory p
        go (inl e) = C.untouched p e ∙ f e ∙ ap (λ n. line_at T S p n (body_in l p)) (sym e) ∙ ap (line_at T S p (counter_in j p)) (sym ((since S T m₀ l C.checked p).1 e))
        go (inr e) = ⊎_elim (λ s. s) (λ z. absurd (nx (fault power_lost p) z.0 z.1 refl)) (C.stored p e)

    -- The way of a commit that came next stands, so it was no reason to stop.
    not_corrupt : (q p : ℕ) → WayChecked S T m₀ l j q → Rests T u.board.register.dirty q p → (p ≡ q → ⊥) → (Stands T S j u.board.memory p → ⊥) → ⊥
    not_corrupt q p c r d n = n (stands_now p (c p (subst (λ z. Rests T z q p) (map_is u j R) r) d))

    module _ {y : Answer} {v : World} {k : Log} (ny : NotLost y) (Q : RegisterLaw S T v.board.register k) (D : CommitLaw S T cap Full w l y v k) where
      -- The other outcome did not go on past this one.
      not_past : (m over over' new : Log) (e : Commit) → over ≡ over' ++ (e ∷ m) → k ≡ e ∷ (m ++ j) → j ≡ new ++ l → ((n : ℕ) → x ≡ done n → over ≡ []) → ((r : Fault) (n : ℕ) → x ≡ refused r n → InHand S T u new over j r) → ⊥
      not_past m over over' new e f g h d i = answered C.answers
        where
          nx' : (q : ℕ) × Next S T m₀ l (e ∷ m) j q
          nx' = first_after S T m₀ l m j new e h (subst (Checked S T m₀ l) g D.checked)

          same : (q₁ : ℕ) → to_come over ≡ some q₁ → q₁ ≡ nx'.0
          same q₁ t = some_inj (sym t ∙ ap to_come f ∙ to_come_front over' (e ∷ m) nx'.0 nx'.1.0)

          hand : (r : Fault) (n : ℕ) → x ≡ refused r n → InHand S T u new over j r → ⊥
          hand r n z (corrupt_above {q = q₁} {p = p} t a d o b) = not_corrupt nx'.0 p nx'.1.1 (subst (λ c. Rests T u.board.register.dirty c p) (same q₁ t) a) (λ c. d (c ∙ sym (same q₁ t))) o
          hand r n z (limit_reached {q = q₁} t b o) =
              let (b', c) = nx'.1.2 in
              let (lo, hi) = Q.inside nx'.0 (suc (counter_in j nx'.0)) b' (subst (λ a. InLog a nx'.0 (suc (counter_in j nx'.0)) b') (sym g) c) in
              omega (arith, hi, Q.small nx'.0 lo, subst (λ a. counter_in j a ≡ T.limit a) (same q₁ t) o)
          hand r n z (before_register {q = q₁} t b c o) = nx (fault power_lost q₁) n z refl
          hand r n z (before_line {q = q₁} t b o) = nx (fault power_lost q₁) n z refl

          answered : ((n : ℕ) × (x ≡ done n)) ⊎ ((r : Fault) × (n : ℕ) × (x ≡ refused r n)) → ⊥
          answered (inl (n, z)) = omega (arith, ap length (sym f ∙ d n z), length-append over' (e ∷ m))
          answered (inr (r, n, z)) = hand r n z (i r n z)

-- Two outcomes with one log have one memory and one answer.
module _ (S : Scheme) (T : Shape) (cap : ℕ) (Full : Log → Log → Type 0) (w : World) (l : Log) {x y : Answer} {u v : World} {j : Log} (nx : NotLost x) (ny : NotLost y)
    (R : RegisterLaw S T u.board.register j) (Q : RegisterLaw S T v.board.register j) (C : CommitLaw S T cap Full w l x u j) (D : CommitLaw S T cap Full w l y v j) where
  same_memory : (q : ℕ) → u.board.memory q ≡ v.board.memory q
  same_memory q = go (cases_eq (counter_in j q) (counter_in l q))
    where
      at : Stands T S j u.board.memory q ⊎ ((n : ℕ) × (x ≡ refused (fault power_lost q) n) × (newest j ≡ some q)) → Stands T S j v.board.memory q ⊎ ((n : ℕ) × (y ≡ refused (fault power_lost q) n) × (newest j ≡ some q)) → u.board.memory q ≡ v.board.memory q
      at (inl a) (inl b) = a ∙ sym b
      at (inl a) (inr b) = absurd (ny (fault power_lost q) b.0 b.1 refl)
      at (inr a) b = absurd (nx (fault power_lost q) a.0 a.1 refl)

      go : (counter_in j q ≡ counter_in l q) ⊎ (counter_in j q ≡ counter_in l q → ⊥) → u.board.memory q ≡ v.board.memory q
      go (inl e) = C.untouched q e ∙ sym (D.untouched q e)
      go (inr e) = at (C.stored q e) (D.stored q e)

  same_map : u.board.register.dirty ≡ v.board.register.dirty
  same_map = fun_ext R.dirty ∙ sym (fun_ext Q.dirty)

  module _ (over new over' new' : Log) (o : over ≡ over') (h : j ≡ new ++ l) (h' : j ≡ new' ++ l) where
    many : length new ≡ length new'
    many = omega (arith, ap length h, length-append new l, ap length h', length-append new' l)

    move : (p : ℕ) → Stands T S j u.board.memory p → Stands T S j v.board.memory p
    move p s = sym (same_memory p) ∙ s

    back : (p : ℕ) → Stands T S j v.board.memory p → Stands T S j u.board.memory p
    back p s = same_memory p ∙ s

    same_fault : (r r' : Fault) (n n' : ℕ) → x ≡ refused r n → y ≡ refused r' n' → InHand S T u new over j r → InHand S T v new' over' j r' → r ≡ r'
    same_fault r r' n n' e e' (corrupt_above {q = q} {p = p} t a d s b) (corrupt_above {q = q'} {p = p'} t' a' d' s' b') =
        let z : q ≡ q' = some_inj (sym t ∙ ap to_come o ∙ t') in
        ap (fault corrupt) (go (cases_eq p p') (one_way (subst (λ c. Rests T u.board.register.dirty c p) z a) (subst (λ m. Rests T m q' p') (sym same_map) a')))
      where
        go : (p ≡ p') ⊎ (p ≡ p' → ⊥) → Rests T u.board.register.dirty p p' ⊎ Rests T u.board.register.dirty p' p → p ≡ p'
        go (inl f) _ = f
        go (inr f) (inl c) = absurd (s' (move p' (b p' c (λ g. f (sym g)))))
        go (inr f) (inr c) = absurd (s (back p (b' p (subst (λ m. Rests T m p' p) same_map c) f)))
    same_fault r r' n n' e e' (corrupt_above {q = q} {p = p} t a d s b) (limit_reached {q = q'} t' b' c') =
        let z : q ≡ q' = some_inj (sym t ∙ ap to_come o ∙ t') in
        absurd (s (back p (b' p (subst (λ m. Rests T m q' p) same_map (subst (λ c. Rests T u.board.register.dirty c p) z a)) (λ g. d (g ∙ sym z)))))
    same_fault r r' n n' e e' (limit_reached {q = q} t b c) (corrupt_above {q = q'} {p = p'} t' a' d' s' b') =
        let z : q ≡ q' = some_inj (sym t ∙ ap to_come o ∙ t') in
        absurd (s' (move p' (b p' (subst (λ m. Rests T m q p') (sym same_map) (subst (λ c. Rests T v.board.register.dirty c p') (sym z) a')) (λ g. d' (g ∙ z)))))
    same_fault r r' n n' e e' (limit_reached {q = q} t b c) (limit_reached {q = q'} t' b' c') = ap (fault at_limit) (some_inj (sym t ∙ ap to_come o ∙ t'))
    same_fault r r' n n' e e' (before_register {q = q} t b c s) b' = absurd (nx (fault power_lost q) n e refl)
    same_fault r r' n n' e e' (before_line {q = q} t b s) b' = absurd (nx (fault power_lost q) n e refl)
    same_fault r r' n n' e e' (corrupt_above t a d s b) (before_register {q = q} t' b' c' s') = absurd (ny (fault power_lost q) n' e' refl)
    same_fault r r' n n' e e' (corrupt_above t a d s b) (before_line {q = q} t' b' s') = absurd (ny (fault power_lost q) n' e' refl)
    same_fault r r' n n' e e' (limit_reached t b c) (before_register {q = q} t' b' c' s') = absurd (ny (fault power_lost q) n' e' refl)
    same_fault r r' n n' e e' (limit_reached t b c) (before_line {q = q} t' b' s') = absurd (ny (fault power_lost q) n' e' refl)

    -- A call with nothing left to commit was not refused.
    not_refused : (r : Fault) (n : ℕ) {z : Answer} {v : World} {new : Log} → NotLost z → z ≡ refused r n → (c : Log) → c ≡ [] → InHand S T v new c j r → ⊥
    unfolding to_come
    not_refused r n nz e c f (corrupt_above t a d s b) = none≢some (sym (ap to_come f) ∙ t)
    not_refused r n nz e c f (limit_reached t b s) = none≢some (sym (ap to_come f) ∙ t)
    not_refused r n nz e c f (before_register {q = q} t b a s) = nz (fault power_lost q) n e refl
    not_refused r n nz e c f (before_line {q = q} t b s) = nz (fault power_lost q) n e refl

    same_answer : ((n : ℕ) → x ≡ done n → (n ≡ length new) × (over ≡ [])) → ((r : Fault) (n : ℕ) → x ≡ refused r n → (n ≡ length new) × InHand S T u new over j r)
        → ((n : ℕ) → y ≡ done n → (n ≡ length new') × (over' ≡ [])) → ((r : Fault) (n : ℕ) → y ≡ refused r n → (n ≡ length new') × InHand S T v new' over' j r) → x ≡ y
    same_answer d i d' i' = go C.answers D.answers
      where
        go : ((n : ℕ) × (x ≡ done n)) ⊎ ((r : Fault) × (n : ℕ) × (x ≡ refused r n)) → ((n : ℕ) × (y ≡ done n)) ⊎ ((r : Fault) × (n : ℕ) × (y ≡ refused r n)) → x ≡ y
        go (inl (n, e)) (inl (n', e')) = e ∙ ap done ((d n e).0 ∙ many ∙ sym (d' n' e').0) ∙ sym e'
        go (inl (n, e)) (inr (r', n', e')) = absurd (not_refused r' n' ny e' over' (sym o ∙ (d n e).1) (i' r' n' e').1)
        go (inr (r, n, e)) (inl (n', e')) = absurd (not_refused r n nx e over (o ∙ (d' n' e').1) (i r n e).1)
        go (inr (r, n, e)) (inr (r', n', e')) = e ∙ ap (λ z. refused z n) (same_fault r r' n n' e e' (i r n e).1 (i' r' n' e').1) ∙ ap (refused r') ((i r n e).0 ∙ many ∙ sym (i' r' n' e').0) ∙ sym e'

-- Two outcomes of one call are one, unless power was lost.
same_outcome : (S : Scheme) (T : Shape) (cap : ℕ) (Full : Log → Log → Type 0) (w : World) (l : Log) → ((j k : Log) → Full l j → Full l k → j ≡ k) → (x y : Answer) (u v : World) (j k : Log) → NotLost x → NotLost y →
    RegisterLaw S T u.board.register j → RegisterLaw S T v.board.register k → CommitLaw S T cap Full w l x u j → CommitLaw S T cap Full w l y v k → SameOutcome x u j y v k
same_outcome S T cap Full w l one x y u v j k nx ny R Q C D =
    let (full, over, new, F, e, h, d, i) = C.begins in
    let (full', over', new', F', e', h', d', i') = D.begins in
    go over new over' new' h h' (λ n z. ((d n z).0, (d n z).1)) i (λ n z. ((d' n z).0, (d' n z).1)) i' (two_ends over over' j k (sym e ∙ one full full' F F' ∙ e'))
  where
    equal : (over new over' new' : Log) → j ≡ new ++ l → k ≡ new' ++ l → ((n : ℕ) → x ≡ done n → (n ≡ length new) × (over ≡ [])) → ((r : Fault) (n : ℕ) → x ≡ refused r n → (n ≡ length new) × InHand S T u new over j r)
        → ((n : ℕ) → y ≡ done n → (n ≡ length new') × (over' ≡ [])) → ((r : Fault) (n : ℕ) → y ≡ refused r n → (n ≡ length new') × InHand S T v new' over' k r) → over ≡ over' → j ≡ k → SameOutcome x u j y v k
    equal over new over' new' h h' d i d' i' o p =
        let Q' = subst (λ z. RegisterLaw S T v.board.register z) (sym p) Q in
        let D' = subst (λ z. CommitLaw S T cap Full w l y v z) (sym p) D in
        record {
          answer = same_answer S T cap Full w l nx ny R Q' C D' over new over' new' o h (p ∙ h') d i d' (λ r n z. ((i' r n z).0, subst (λ c. InHand S T v new' over' c r) (sym p) (i' r n z).1));
          log = p;
          memory = same_memory S T cap Full w l nx ny R Q' C D';
        }

    go : (over new over' new' : Log) → j ≡ new ++ l → k ≡ new' ++ l → ((n : ℕ) → x ≡ done n → (n ≡ length new) × (over ≡ [])) → ((r : Fault) (n : ℕ) → x ≡ refused r n → (n ≡ length new) × InHand S T u new over j r)
        → ((n : ℕ) → y ≡ done n → (n ≡ length new') × (over' ≡ [])) → ((r : Fault) (n : ℕ) → y ≡ refused r n → (n ≡ length new') × InHand S T v new' over' k r) → Ends over over' j k → SameOutcome x u j y v k
    go over new over' new' h h' d i d' i' (inl ([], f, g)) = equal over new over' new' h h' d i d' i' (f ∙ append-nil over') (sym g)
    go over new over' new' h h' d i d' i' (inl (c ∷ m, f, g)) = absurd (not_past S T cap Full w l one nx R C ny Q D m over over' new c f g h (λ n z. (d n z).1) (λ r n z. (i r n z).1))
    go over new over' new' h h' d i d' i' (inr ([], f, g)) = equal over new over' new' h h' d i d' i' (sym (f ∙ append-nil over)) g
    go over new over' new' h h' d i d' i' (inr (c ∷ m, f, g)) = absurd (not_past S T cap Full w l one ny Q D nx R C m over' over new' c f g h' (λ n z. (d' n z).1) (λ r n z. (i' r n z).1))

pub laws_decide : LawsDecide
laws_decide =
    record {
      writes = λ S T cap a b w l. same_outcome S T cap (Written T cap a b) w l (λ j k. written_one T);
      flushes = λ S T cap w l. same_outcome S T cap (EvictedUntil T 0) w l (λ j k. freed_one T);
    }
