-- Cuts of a list of writes, and what answers tell.
use Rattle.std.proofs.Common.{◌≡◌, ℕ, zero, suc, ◌+◌, ◌<◌, ◌≤◌, Bool, true, false, cond, ltb, ◌⊎◌, List, [], ◌∷◌, ◌++◌, length, sym, refl, ap, ◌∙◌, inl, inr, arith}
use mathlib.Core.Option.{Option, some, none}
use Rattle.std.proofs.lemmas.Bool.{ltb-true, ltb-false}
use Rattle.suite.specs.Scheme.{Body}
use Rattle.board.specs.Meaning.{Power, endless, writes}
use Rattle.machine.specs.Store.{Log, Write, write_register, write_line, BoardState, after_write, after_writes, log_after, commits_in, Cut}
use Rattle.machine.specs.Faults.{Fault}
use Rattle.machine.specs.Plans.{Run}
use Rattle.machine.specs.History.{body_is, done, refused, ending, power_lost_at, answer_of}

pub after_writes_front : (ws ws₁ : List Write) (k : ℕ) (b : BoardState) → k ≤ length ws → after_writes k (ws ++ ws₁) b ≡ after_writes k ws b
unfolding after_writes
after_writes_front [] [] k b h = refl
after_writes_front [] (w ∷ ws₁) zero b h = refl
after_writes_front [] (w ∷ ws₁) (suc k) b h = absurd (omega arith)
after_writes_front (w ∷ ws) ws₁ zero b h = refl
after_writes_front (w ∷ ws) ws₁ (suc k) b h = after_writes_front ws ws₁ k (after_write b w) (omega arith)

pub log_front : (ws ws₁ : List Write) (k : ℕ) (l : Log) → k ≤ length ws → log_after k (ws ++ ws₁) l ≡ log_after k ws l
unfolding log_after
log_front [] [] k l h = refl
log_front [] (w ∷ ws₁) zero l h = refl
log_front [] (w ∷ ws₁) (suc k) l h = absurd (omega arith)
log_front (w ∷ ws) ws₁ zero l h = refl
log_front (write_register x es r ∷ ws) ws₁ (suc k) l h = log_front ws ws₁ k (es ++ l) (omega arith)
log_front (write_line a L ∷ ws) ws₁ (suc k) l h = log_front ws ws₁ k l (omega arith)

pub after_writes_back : (ws ws₁ : List Write) (k : ℕ) (b : BoardState) → after_writes (length ws + k) (ws ++ ws₁) b ≡ after_writes k ws₁ (after_writes (length ws) ws b)
unfolding after_writes
after_writes_back [] ws₁ k b = let e : 0 + k ≡ k = omega arith in ap (λ n. after_writes n ws₁ b) e
after_writes_back (w ∷ ws) ws₁ k b = let e : suc (length ws) + k ≡ suc (length ws + k) = omega arith in ap (λ n. after_writes n (w ∷ (ws ++ ws₁)) b) e ∙ after_writes_back ws ws₁ k (after_write b w)

pub log_back : (ws ws₁ : List Write) (k : ℕ) (l : Log) → log_after (length ws + k) (ws ++ ws₁) l ≡ log_after k ws₁ (log_after (length ws) ws l)
unfolding log_after
log_back [] ws₁ k l = let e : 0 + k ≡ k = omega arith in ap (λ n. log_after n ws₁ l) e
log_back (write_register x es r ∷ ws) ws₁ k l = let e : suc (length ws) + k ≡ suc (length ws + k) = omega arith in ap (λ n. log_after n (write_register x es r ∷ (ws ++ ws₁)) l) e ∙ log_back ws ws₁ k (es ++ l)
log_back (write_line a L ∷ ws) ws₁ k l = let e : suc (length ws) + k ≡ suc (length ws + k) = omega arith in ap (λ n. log_after n (write_line a L ∷ (ws ++ ws₁)) l) e ∙ log_back ws ws₁ k l

pub cut_le : (p q : Power) (w k : ℕ) → Cut p w k q → k ≤ w
cut_le endless endless w k c = omega arith
cut_le endless (writes q) w k c = absurd c
cut_le (writes p) endless w k c = absurd c
cut_le (writes p) (writes q) w k c = c.0

pub cut_lost : (p q : Power) (w k : ℕ) → Cut p w k q → k < w → q ≡ writes 0
cut_lost endless endless w k c h = absurd (omega arith)
cut_lost endless (writes q) w k c h = absurd c
cut_lost (writes p) endless w k c h = absurd c
cut_lost (writes p) (writes q) w k c h = ap writes (c.2 h)

-- Answers are told apart.
pub done≢refused : {n m : ℕ} {r : Fault} → done n ≡ refused r m → ⊥
done≢refused e = cc

pub body≢refused : {b : Body} {m : ℕ} {r : Fault} → body_is b ≡ refused r m → ⊥
body≢refused e = cc

pub body_inj : {b d : Body} → body_is b ≡ body_is d → b ≡ d
body_inj e = cc

pub done_inj : {n m : ℕ} → done n ≡ done m → n ≡ m
done_inj e = cc

pub refused_inj : {r s : Fault} {n m : ℕ} → refused r n ≡ refused s m → (r ≡ s) × (n ≡ m)
refused_inj e = (cc, cc)

-- What the answer of a run says of its cut.
pub answer_done : (r : Run) (k n : ℕ) → k ≤ length r.planned → answer_of r k ≡ done n → (k ≡ length r.planned) × (r.ends ≡ none) × (n ≡ commits_in k r.planned)
answer_done r k n h e = go (ltb k (length r.planned)) refl e
  where
    at : k ≡ length r.planned → (o : Option Fault) → r.ends ≡ o → ending o (commits_in k r.planned) ≡ done n → (k ≡ length r.planned) × (r.ends ≡ none) × (n ≡ commits_in k r.planned)
    at f none p e = (f, p, sym (done_inj e))
    at f (some x) p e = absurd (done≢refused (sym e))

    go : (b : Bool) → ltb k (length r.planned) ≡ b → cond b (refused (power_lost_at k r.planned) (commits_in k r.planned)) (ending r.ends (commits_in k r.planned)) ≡ done n → (k ≡ length r.planned) × (r.ends ≡ none) × (n ≡ commits_in k r.planned)
    go true p e = absurd (done≢refused (sym e))
    go false p e = at (omega (arith, ltb-false _ _ p)) r.ends refl e

pub answer_refused : (r : Run) (k n : ℕ) (y : Fault) → k ≤ length r.planned → answer_of r k ≡ refused y n → (n ≡ commits_in k r.planned) × (((k < length r.planned) × (y ≡ power_lost_at k r.planned)) ⊎ ((k ≡ length r.planned) × (r.ends ≡ some y)))
answer_refused r k n y h e = go (ltb k (length r.planned)) refl e
  where
    at : k ≡ length r.planned → (o : Option Fault) → r.ends ≡ o → ending o (commits_in k r.planned) ≡ refused y n → (n ≡ commits_in k r.planned) × (((k < length r.planned) × (y ≡ power_lost_at k r.planned)) ⊎ ((k ≡ length r.planned) × (r.ends ≡ some y)))
    at f none p e = absurd (done≢refused e)
    at f (some x) p e = (sym (refused_inj e).1, inr (f, p ∙ ap some (refused_inj e).0))

    go : (b : Bool) → ltb k (length r.planned) ≡ b → cond b (refused (power_lost_at k r.planned) (commits_in k r.planned)) (ending r.ends (commits_in k r.planned)) ≡ refused y n → (n ≡ commits_in k r.planned) × (((k < length r.planned) × (y ≡ power_lost_at k r.planned)) ⊎ ((k ≡ length r.planned) × (r.ends ≡ some y)))
    go true p e = (sym (refused_inj e).1, inl (ltb-true _ _ p, sym (refused_inj e).0))
    go false p e = at (omega (arith, ltb-false _ _ p)) r.ends refl e
