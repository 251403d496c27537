-- Traces one after another.
use Rattle.std.proofs.Common.{◌≡◌, ℕ, ◌+◌, ◌-◌, ◌<◌, ◌≤◌, Bool, true, false, List, [], ◌∷◌, ◌++◌, length, get_or, take, drop, set, sym, refl, ap, ◌∙◌, subst, append_assoc, append-nil, arith}
use Rattle.std.proofs.lemmas.List.{take_more, take_more_set, drop-set-lt, drop-drop}
use Rattle.suite.specs.Scheme.{Scheme}
use Rattle.board.specs.Meaning.{Meaning, Power}
use Rattle.machine.specs.Layout.{eight_ary}
use Rattle.machine.specs.Store.{Log}
use Rattle.board.specs.declared.types.Line.{Line as Stored}
use Rattle.machine.specs.Words.{line_in}
use Rattle.machine.specs.History.{World, tamper, Answer, nothing, Reached}
use Rattle.machine.specs.History.{Event as Happening}
use Rattle.machine.proofs.EightAry.{eight_trees}
use Rattle.machine.proofs.HistoryHolds.{keeps_promises}
use Rattle.controller.specs.declared.chip.Chip.{Chip}
use Rattle.controller.specs.declared.event.Event.{Event}
use Rattle.controller.specs.declared.event.Event.TheVariants.{Tamper}
use Rattle.controller.specs.declared.event.Reply.{Reply}
use Rattle.controller.specs.declared.event.Reply.TheVariants.{Put}
use Rattle.controller.specs.Worlds.{Keeps}
use Rattle.controller.specs.Outside.{KeepsFair, Tampers}
use Rattle.controller.specs.Scripts.{Trace, GoesThrough, KeepsThrough, Traces, PlaysOne, DoesOne, AllTraces, Plays, DoesAll}

module _ (S : Scheme) where
  -- Nothing happened.
  pub through_none : (w : World) → KeepsThrough S w [] w
  through_none w l R = (refl, R, keeps_promises eight_ary eight_trees S w l R)

  -- One event that its premise allows.
  pub through_fair : (w : World) (e : Happening) (x : Answer) (w' : World) → KeepsFair S w e x w' → KeepsThrough S w ((e, x) ∷ []) w'
  through_fair w e x w' k l R = (w', λ f. let (l₁, g) = k l R f in (l₁, g, (refl, g.reached, g.holds)))

  -- One event.
  pub through_one : (w : World) (e : Happening) (x : Answer) (w' : World) → Keeps S w e x w' → KeepsThrough S w ((e, x) ∷ []) w'
  through_one w e x w' k = through_fair w e x w' (λ l R f. k l R)

  joins : (w : World) (l : Log) (t u : Trace) (w₁ w₂ : World) → GoesThrough S w l t w₁ → KeepsThrough S w₁ u w₂ → GoesThrough S w l (t ++ u) w₂
  joins w l [] u w₁ w₂ (e, R, o) k = subst (λ (v : World). Reached eight_ary S v l → GoesThrough S v l u w₂) e (λ R₁. k l R₁) R
  joins w l (p ∷ t) u w₁ w₂ (v, f) k = (v, λ q. let (l₁, g, r) = f q in (l₁, g, joins v l₁ t u w₁ w₂ r k))

  -- One trace, then another.
  pub through_then : (w w₁ w₂ : World) (t u : Trace) → KeepsThrough S w t w₁ → KeepsThrough S w₁ u w₂ → KeepsThrough S w (t ++ u) w₂
  through_then w w₁ w₂ t u a b l R = joins w l t u w₁ w₂ (a l R) b

  -- No event was played.
  pub plays_none : (cap : ℕ) (w : World) → Plays S cap w [] [] w
  plays_none cap w = ([], refl, through_none w)

  one_more : (cap num : ℕ) (es : List Event) (rs : List Reply) (t : Trace) (e : Event) (r : Reply) (u : Trace) → AllTraces cap num es rs t → Traces cap num e r u → AllTraces cap num (es ++ e ∷ []) (rs ++ r ∷ []) (t ++ u)
  one_more cap num [] [] t e r u a b = (u, [], ap (λ x. x ++ u) a ∙ sym (append-nil u), b, refl)
  one_more cap num [] (s ∷ rs) t e r u a b = absurd a
  one_more cap num (f ∷ es) [] t e r u a b = absurd a
  one_more cap num (f ∷ es) (s ∷ rs) t e r u (t₁, t₂, q, c, a) b = (t₁, t₂ ++ u, ap (λ x. x ++ u) q ∙ append_assoc t₁ t₂ u, c, one_more cap num es rs t₂ e r u a b)

  -- One event more.
  pub plays_more : (cap : ℕ) (w w₁ w₂ : World) (es : List Event) (rs : List Reply) (e : Event) (r : Reply) → Plays S cap w es rs w₁ → PlaysOne S cap w₁ e r w₂ → Plays S cap w (es ++ e ∷ []) (rs ++ r ∷ []) w₂
  plays_more cap w w₁ w₂ es rs e r (t, a, k) (u, b, n) = (t ++ u, one_more cap S.number es rs t e r u a b, through_then w w₁ w₂ t u k n)

  -- An event with its answer said in another way.
  pub said_as : (w : World) (e : Happening) (x y : Answer) (w' : World) → y ≡ x → Keeps S w e x w' → Keeps S w e y w'
  said_as w e x y w' q = subst (λ (z : Answer). Keeps S w e z w') (sym q)

  -- Two events in a row.
  pub two_events : (w w₁ w₂ : World) (e f : Happening) (x y : Answer) → Keeps S w e x w₁ → Keeps S w₁ f y w₂ → KeepsThrough S w ((e, x) ∷ (f, y) ∷ []) w₂
  two_events w w₁ w₂ e f x y a b =
      through_then w w₁ w₂ ((e, x) ∷ []) ((f, y) ∷ []) (through_one w e x w₁ a) (through_one w₁ f y w₂ b)

  -- Three.
  pub three_events : (w w₁ w₂ w₃ : World) (d e f : Happening) (v x y : Answer) → Keeps S w d v w₁ → Keeps S w₁ e x w₂ → Keeps S w₂ f y w₃ → KeepsThrough S w ((d, v) ∷ (e, x) ∷ (f, y) ∷ []) w₃
  three_events w w₁ w₂ w₃ d e f v x y a b c =
      through_then w w₁ w₃ ((d, v) ∷ []) ((e, x) ∷ (f, y) ∷ []) (through_one w d v w₁ a) (two_events w₁ w₂ w₃ e f x y b c)

  -- A line put in place from outside, or one without a place.
  pub puts_one : (cap : ℕ) (w w' : World) (a : ℕ) (l : Stored) (b : Bool) → Tampers S w a (line_in l) b w' → PlaysOne S cap w (Tamper a l) (Put b) w'
  puts_one cap w w' a l true k = (_, refl, through_fair w (tamper a (line_in l)) nothing w' k)
  puts_one cap w w' a l false k = ([], refl, λ m R. (k, R, keeps_promises eight_ary eight_trees S w m R))

  -- One event as a trace, with its answer said in another way.
  pub one_event : (w : World) (e : Happening) (x y : Answer) (w' : World) → Keeps S w e x w' → y ≡ x → KeepsThrough S w ((e, y) ∷ []) w'
  one_event w e x y w' k q = through_one w e y w' (said_as w e x y w' q k)

  -- Event i of a script, its reply put in place.
  pub script_more : (cap : ℕ) (w w₁ w₂ : World) (es : List Event) (rs : List Reply) (i : ℕ) (e d : Event) (r : Reply) → i < length es → i < length rs → e ≡ get_or es i d → Plays S cap w (take i es) (take i rs) w₁ → PlaysOne S cap w₁ e r w₂ → Plays S cap w (take (i + 1) es) (take (i + 1) (set rs i r)) w₂
  script_more cap w w₁ w₂ es rs i e d r h k q a b =
      let s : take i es ++ e ∷ [] ≡ take (i + 1) es = ap (λ x. take i es ++ x ∷ []) q ∙ sym (take_more es i d h) in
      let t : take i rs ++ r ∷ [] ≡ take (i + 1) (set rs i r) = sym (take_more_set rs i r k) in
      subst (λ (x : List Reply). Plays S cap w (take (i + 1) es) x w₂) t (subst (λ (x : List Event). Plays S cap w x (take i rs ++ r ∷ []) w₂) s (plays_more cap w w₁ w₂ (take i es) (take i rs) e r a b))

  -- One event more, on any board.
  does_more : (cap : ℕ) (p : Power) (m m₁ m₂ : Meaning) (c c₁ c₂ : Chip) (es : List Event) (rs : List Reply) (e : Event) (r : Reply) → DoesAll S cap m c es rs m₁ c₁ → DoesOne S cap p m₁ c₁ e r m₂ c₂ → DoesAll S cap m c (es ++ e ∷ []) (rs ++ r ∷ []) m₂ c₂
  does_more cap p m m₁ m₂ c c₁ c₂ [] [] e r (q, h) d = (p, m₂, c₂, subst (λ (x : Meaning). DoesOne S cap p x c e r m₂ c₂) q (subst (λ (x : Chip). DoesOne S cap p m₁ x e r m₂ c₂) h d), (refl, refl))
  does_more cap p m m₁ m₂ c c₁ c₂ [] (s ∷ rs) e r a d = absurd a
  does_more cap p m m₁ m₂ c c₁ c₂ (f ∷ es) [] e r a d = absurd a
  does_more cap p m m₁ m₂ c c₁ c₂ (f ∷ es) (s ∷ rs) e r (p', m', c', b, a) d = (p', m', c', b, does_more cap p m' m₁ m₂ c' c₁ c₂ es rs e r a d)

  -- The same of event i of a script, its reply put in place.
  pub script_does : (cap : ℕ) (p : Power) (m m₁ m₂ : Meaning) (c c₁ c₂ : Chip) (es : List Event) (rs : List Reply) (i : ℕ) (d : Event) (r : Reply) → i < length es → i < length rs → DoesAll S cap m c (take i es) (take i rs) m₁ c₁ → DoesOne S cap p m₁ c₁ (get_or es i d) r m₂ c₂ → DoesAll S cap m c (take (i + 1) es) (take (i + 1) (set rs i r)) m₂ c₂
  script_does cap p m m₁ m₂ c c₁ c₂ es rs i d r h k a b =
      subst (λ (x : List Reply). DoesAll S cap m c (take (i + 1) es) x m₂ c₂) (sym (take_more_set rs i r k))
      (subst (λ (x : List Event). DoesAll S cap m c x (take i rs ++ r ∷ []) m₂ c₂) (sym (take_more es i d h)) (does_more cap p m m₁ m₂ c c₁ c₂ (take i es) (take i rs) (get_or es i d) r a b))

-- Lists that agree behind a place agree behind a later one.
pub dropped_all : (rs ss : List Reply) (i n : ℕ) → i ≤ n → drop i rs ≡ drop i ss → drop n rs ≡ drop n ss
dropped_all rs ss i n h e =
    let k : i + (n - i) ≡ n = omega arith in
    ap (λ m. drop m rs) (sym k) ∙ sym (drop-drop (n - i) i rs) ∙ ap (drop (n - i)) e ∙ drop-drop (n - i) i ss ∙ ap (λ m. drop m ss) k

-- What lies behind place i is not touched.
pub dropped_more : (rs ss : List Reply) (i : ℕ) (r : Reply) → drop i rs ≡ drop i ss → drop (i + 1) (set rs i r) ≡ drop (i + 1) ss
dropped_more rs ss i r e = drop-set-lt (i + 1) rs i r (omega arith) ∙ dropped_all rs ss i (i + 1) (omega arith) e
