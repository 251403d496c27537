-- One list of writes after another: how their cuts compose. For the proofs of code.
use Rattle.std.proofs.Common.{◌≡◌, ℕ, zero, suc, ◌+◌, ◌<◌, List, [], ◌∷◌, ◌++◌, length, sym, refl, ap, ◌∙◌, subst, arith}
use Rattle.std.proofs.lemmas.List.{length-append}
use Rattle.suite.specs.Scheme.{Line}
use Rattle.board.specs.Meaning.{Power, endless, writes}
use Rattle.machine.specs.Layout.{update}
use Rattle.machine.specs.Store.{Register, Write, write_register, write_line, BoardState, after_writes, Cut}
use Rattle.machine.specs.History.{Did}
use Rattle.machine.proofs.Cuts.{after_writes_front, after_writes_back}

cut_more : (p q : Power) (w u k : ℕ) → Cut p w k q → k < w → Cut p (w + u) k q
cut_more endless endless w u k c h = absurd (omega arith)
cut_more endless (writes q) w u k c h = absurd c
cut_more (writes p) endless w u k c h = absurd c
cut_more (writes p) (writes q) w u k c h = (omega arith, c.1, λ _. c.2 h, c.3)

cut_join : (p q r : Power) (w u k : ℕ) → Cut p w w q → Cut q u k r → Cut p (w + u) (w + k) r
cut_join endless endless endless w u k c d = omega arith
cut_join endless endless (writes r) w u k c d = absurd d
cut_join endless (writes q) r w u k c d = absurd c
cut_join (writes p) endless r w u k c d = absurd c
cut_join (writes p) (writes q) endless w u k c d = absurd d
cut_join (writes p) (writes q) (writes r) w u k c d =
    (omega (arith, d.0), omega (arith, c.1, d.1), λ h. d.2 (omega arith), λ h. d.3 (omega arith) ∙ c.3 (omega arith))

after_writes_same : (ws : List Write) (k : ℕ) (b c : BoardState) → b.memory ≡ c.memory → b.register ≡ c.register → ((after_writes k ws b).memory ≡ (after_writes k ws c).memory) × ((after_writes k ws b).register ≡ (after_writes k ws c).register)
unfolding after_writes
after_writes_same [] k b c e f = (e, f)
after_writes_same (w ∷ ws) zero b c e f = (e, f)
after_writes_same (write_register x es g ∷ ws) (suc k) b c e f = after_writes_same ws k _ _ e refl
after_writes_same (write_line a L ∷ ws) (suc k) b c e f = after_writes_same ws k _ _ (ap (λ m. update m a L) e) f

same_board : (m n : ℕ → Line) (g h : Register) (z : ℕ) (p : Power) → m ≡ n → g ≡ h → ◌≡◌ {A = BoardState} (record { memory = m; size = z; register = g; power = p }) (record { memory = n; size = z; register = h; power = p })
same_board m n g h z p e f = λ i. record { memory = e i; size = z; register = f i; power = p }

-- A list that was cut short is cut short in any longer one.
pub did_cut : (b b' : BoardState) (ws us : List Write) (k : ℕ) → k < length ws → Did b ws k b' → Did b (ws ++ us) k b'
did_cut b b' ws us k h (p, c, e) = (
  p,
  subst (λ n. Cut b.power n k p) (sym (length-append ws us)) (cut_more b.power p (length ws) (length us) k c h),
  e ∙ same_board _ _ _ _ b.size p (ap (λ z. z.memory) (sym (after_writes_front ws us k b (omega arith)))) (ap (λ z. z.register) (sym (after_writes_front ws us k b (omega arith)))),
)

-- A list done whole, and then another.
pub did_then : (b b₁ b' : BoardState) (ws us : List Write) (k : ℕ) → Did b ws (length ws) b₁ → Did b₁ us k b' → Did b (ws ++ us) (length ws + k) b'
did_then b b₁ b' ws us k (p, c, e) (q, d, f) =
    let z = after_writes_same us k b₁ (after_writes (length ws) ws b) (ap (λ y. y.memory) e) (ap (λ y. y.register) e) in (
      q,
      subst (λ n. Cut b.power n (length ws + k) q) (sym (length-append ws us)) (cut_join b.power p q (length ws) (length us) k c (subst (λ y. Cut y.power (length us) k q) e d)),
      f ∙ ap (λ y. record { memory = (after_writes k us b₁).memory; size = y.size; register = (after_writes k us b₁).register; power = q }) e
          ∙ same_board _ _ _ _ b.size q (z.0 ∙ ap (λ y. y.memory) (sym (after_writes_back ws us k b))) (z.1 ∙ ap (λ y. y.register) (sym (after_writes_back ws us k b))),
    )
