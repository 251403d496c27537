-- A function applied again and again by a fold over a range.
use Rattle.std.proofs.Common.{◌≡◌, ℕ, ◌+◌, ◌-◌, List, [], ◌∷◌, ◌++◌, length, refl, sym, ap, ◌∙◌, add-one, arith, length-append}
use denote.Param.Members.{Mut, Called}
use Rattle.std.specs.Iterator.{Drains}
use Rattle.std.specs.List.{FoldsTo, range_with_len}
use Rattle.std.proofs.iter.Yields.{nat_range_steps, Range-gives}
use Rattle.std.proofs.lemmas.Fn.{fold_over}
use Rattle.std.proofs.lemmas.List.FromFn.{length-range_with_len}
use Rattle.cbench.specs.Turns.{turned}

-- One turn more.
pub turned_more : (f : List ℕ → List ℕ) (n : ℕ) (x y z : List ℕ) → y ≡ turned f n x → z ≡ f y → z ≡ turned f (n + 1) x
unfolding turned
turned_more f n x y z e h =
    let step : turned f (n + 1) x ≡ f (turned f n x) = ap (λ (k : ℕ). turned f k x) (add-one n) in
    cc

-- The same of a list of turns, and one more behind them.
turned_again : (step : List ℕ → List ℕ) (start x y : List ℕ) (turns : List ℕ) (i : ℕ) → x ≡ turned step (length turns) start → y ≡ step x → y ≡ turned step (length (turns ++ i ∷ [])) start
turned_again step start x y turns i e h =
    turned_more step (length turns) start x y e h ∙ ap (λ (k : ℕ). turned step k start) (sym (length-append turns (i ∷ [])))

pub turned_by_fold : {F : Type 0} (g : Mut F (List ℕ × (ℕ × Unit {0})) (List ℕ)) (f : F) (step : List ℕ → List ℕ) (n : ℕ) (start r : List ℕ) → (xs : List ℕ) × (q : F) × Drains nat_range_steps (record { start = 0; end = n }) xs × FoldsTo {P = F × List ℕ} (λ p x q. Called g p.0 (p.1, (x, tt)) q.1 q.0) (f, start) xs (q, r) → ((x : List ℕ) (i : ℕ) (y : List ℕ) (q : F) → Called g f (x, (i, tt)) y q → (y ≡ step x) × (q ≡ f)) → r ≡ turned step n start
unfolding turned
turned_by_fold g f step n start r ran call =
    let all = Range-gives (record { start = 0; end = n }) in
    let e = fold_over nat_range_steps (λ x. x) g (λ turns y. y ≡ turned step (length turns) start) f
    (λ turns x i y q e h. let k = call x i y q h in (turned_again step start x y turns i e k.0, k.1))
    (record { start = 0; end = n }) (range_with_len 0 (n - 0)) start r all refl ran in
    let long : length (range_with_len 0 (n - 0)) ≡ n = length-range_with_len 0 (n - 0) ∙ omega arith in
    e ∙ ap (λ (k : ℕ). turned step k start) long
