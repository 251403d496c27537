-- The law of reads.
use Rattle.std.proofs.Common.{◌≡◌, ℕ, ◌<◌, ◌≤◌, Bool, true, false, cond, ltb, sym, refl, ap, ◌∙◌, subst, inl, inr, ⊎_elim, arith}
use Rattle.std.proofs.lemmas.Bool.{ltb-true, ltb-false, both_ways}
use Rattle.suite.specs.Scheme.{Body, Scheme, right, mix}
use Rattle.machine.specs.Layout.{Shape, TreeLaws}
use Rattle.machine.specs.Store.{Log}
use Rattle.machine.specs.Faults.{fault, Outcome, ok, err, not_data, corrupt}
use Rattle.machine.specs.Plans.{Table, View, counter_at, counter_of, read_under, read_call}
use Rattle.machine.specs.History.{World, Answer, refused, read_answer, view_of, counter_in, body_in, shape_of}
use Rattle.machine.specs.Laws.{WayStands, Stands, Rests, itself}
use Rattle.machine.specs.Promises.{ReadLaw}
use Rattle.machine.proofs.Invariant.{Durable}
use Rattle.machine.proofs.Lines.{right_stands, stands_right, data_words}
use Rattle.machine.proofs.TrustedCounter.{Way, counter_true, counter_refused}
use Rattle.machine.proofs.Trails.{OpenHolds}
use Rattle.machine.proofs.Cuts.{body≢refused, body_inj, refused_inj}
use Rattle.machine.proofs.Pads.{mix_undo}

module _ (shapes : ℕ → Shape) (T : Shape) (L : TreeLaws T) (S : Scheme) (l : Log) (v : View) (W : OpenHolds shapes T S l v) (a : ℕ) (h : a < T.data_lines) where
  k : a < T.lines
  k = omega (arith, L.data_in)

  D : Durable T S l v.register
  D = W.durable

  abbrev All : Type 0
  All = (q : ℕ) → Rests T v.register.dirty a q → Stands T S l v.memory q

  -- A read is accepted with the body last committed and all it rests on standing, or refused for a line that does not stand.
  pub data Reads : Outcome Body → Type 0 where
    gives : All → Reads (ok (body_in l a))
    denies : (q : ℕ) → Rests T v.register.dirty a q → (Stands T S l v.memory q → ⊥) → Way shapes T L S l v W.durable q → Reads (err (fault corrupt q))

  opened_body : Stands T S l v.memory a → mix (v.memory a).words (S.pad a (counter_in l a)) ≡ body_in l a
  opened_body s =
      ap (λ z. mix z.words (S.pad a (counter_in l a))) s ∙ ap (λ z. mix z (S.pad a (counter_in l a))) (data_words T S a (counter_in l a) (body_in l a) h) ∙ mix_undo (body_in l a) (S.pad a (counter_in l a))

  pub reads : Reads (read_under T S v a (counter_of T S v a))
  unfolding counter_of
  reads = go (counter_at T S v (T.depth (T.parent a)) a) refl
    where
      judged : (c : ℕ) → c ≡ counter_in l a → Way shapes T L S l v D a → (b : Bool) → right S a c (v.memory a) ≡ b → Reads (cond b (ok (mix (v.memory a).words (S.pad a c))) (err (fault corrupt a)))
      judged c e w true r =
          let s = right_stands shapes T S l v.register D v.memory a k (W.fine a k) (subst (λ n. right S a n (v.memory a) ≡ true) e r) in
          subst (λ z. Reads (ok z)) (sym (ap (λ n. mix (v.memory a).words (S.pad a n)) e ∙ opened_body s))
          (gives (λ q x. ⊎_elim (λ f. subst (Stands T S l v.memory) (sym f) s) (λ f. f) (w q x)))
      judged c e w false r = denies a itself (λ s. both_ways _ r (subst (λ n. right S a n (v.memory a) ≡ true) (sym e) (stands_right shapes T S l v.register D v.memory a s))) w

      go : (z : Outcome ℕ) → counter_at T S v (T.depth (T.parent a)) a ≡ z → Reads (read_under T S v a z)
      go (ok c) e =
          let (f, w) = counter_true shapes T L S l v D (T.depth (T.parent a)) a c k refl (λ q _ _. W.slots_hold.exact q) (λ q _. W.fine q) e in
          judged c f w (right S a c (v.memory a)) refl
      go (err x) e =
          let (q, f, r, o, n, y) = counter_refused shapes T L S l v D (T.depth (T.parent a)) a x k refl (λ q _ _. W.slots_hold.exact q) (λ q _. W.fine q) e in
          subst (λ z. Reads (err z)) (sym f) (denies q r n y)

module _ (shapes : ℕ → Shape) (S : Scheme) (w : World) (L : TreeLaws (shape_of shapes w.board)) (t : Table) (l : Log) (W : OpenHolds shapes (shape_of shapes w.board) S l (view_of w.board t)) where
  abbrev T : Shape
  T = shape_of shapes w.board

  within : (a : ℕ) (h : a < T.data_lines) {z : Outcome Body} → Reads shapes T L S l (view_of w.board t) W a h z → ReadLaw S T w l a (read_answer z)
  within a h (gives all) =
      record {
        answers = inl (_, refl);
        beyond = λ n. absurd (omega arith);
        gives = λ b e. sym (body_inj e);
        accepts = λ _. ((λ _. all), λ _. (body_in l a, refl));
        refuses = λ _ r n e. absurd (body≢refused e);
      }
  within a h (denies q r s y) =
      record {
        answers = inr (_, refl);
        beyond = λ n. absurd (omega arith);
        gives = λ b e. absurd (body≢refused (sym e));
        accepts = λ _. ((λ y. absurd (body≢refused (sym y.1))), λ all. absurd (s (all q r)));
        refuses =
            λ _ x n e.
            let f = (refused_inj e).0 in
            (ap (λ y. y.cause) (sym f), subst (λ y. Rests T w.board.register.dirty a y.place) f r, subst (λ y. Stands T S l w.board.memory y.place → ⊥) f s, subst (λ z. WayStands T S l w.board.memory w.board.register.dirty z.place) f (λ u z d. ⊎_elim (λ g. absurd (d g)) (λ g. g) (y u z)));
      }

  outside : (a : ℕ) → T.data_lines ≤ a → ReadLaw S T w l a (refused (fault not_data a) 0)
  outside a h =
      record {
        answers = inr (_, refl);
        beyond = λ _. refl;
        gives = λ b e. absurd (body≢refused (sym e));
        accepts = λ n. absurd (omega arith);
        refuses = λ n. absurd (omega arith);
      }

  pub read_law : (a : ℕ) (x : Answer) → x ≡ read_answer (read_call T S (view_of w.board t) a) → ReadLaw S T w l a x
  unfolding read_call
  read_law a x e = subst (ReadLaw S T w l a) (sym e) (go (ltb a T.data_lines) refl)
    where
      go : (d : Bool) → ltb a T.data_lines ≡ d → ReadLaw S T w l a (read_answer (cond d (read_under T S (view_of w.board t) a (counter_of T S (view_of w.board t) a)) (err (fault not_data a))))
      go true f = let h = ltb-true _ _ f in within a h (reads shapes T L S l (view_of w.board t) W a h)
      go false f = outside a (ltb-false _ _ f)
