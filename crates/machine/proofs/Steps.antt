-- The plans by the parent's place alone: the root, or a node below it. Code that follows a plan goes up by addresses and counts no steps.
use Rattle.std.proofs.Common.{◌≡◌, ℕ, suc, ◌<◌, ◌≤◌, cond, ap, ◌∙◌}
use Rattle.std.proofs.lemmas.Bool.{le-ltb}
use Rattle.suite.specs.Scheme.{Body, Scheme}
use Rattle.machine.specs.Layout.{Shape, TreeLaws}
use Rattle.machine.specs.Faults.{fault, not_data}
use Rattle.machine.specs.Plans.{View, overdue, and_then, stop, evict_now, evict_at, evict, write_at, write_call}

module _ (T : Shape) (L : TreeLaws T) (a : ℕ) where
  pub depth_of_root : T.parent a ≡ T.lines → T.depth (T.parent a) ≡ 0
  depth_of_root e = ap T.depth e ∙ L.depth_root

  pub depth_of_node : T.parent a < T.lines → T.depth (T.parent a) ≡ suc (T.depth (T.parent (T.parent a)))
  depth_of_node k = L.depth_parent (T.parent a) k

  module _ (S : Scheme) (v : View) where
    -- Evicting a node.
    pub evict_under_root : T.parent a ≡ T.lines → evict T S v a ≡ evict_now T S v a
    unfolding evict evict_at
    evict_under_root e = ap (λ r. evict_at T S v r a) (depth_of_root e)

    pub evict_under_node : T.parent a < T.lines → evict T S v a ≡ cond (overdue (v.table (T.parent a))) (and_then (evict T S v (T.parent a)) (λ u. evict_now T S u a)) (evict_now T S v a)
    unfolding evict evict_at
    evict_under_node k = ap (λ r. evict_at T S v r a) (depth_of_node k)

    -- Writing a data line.
    pub write_outside : (cap : ℕ) (b : Body) → T.data_lines ≤ a → write_call T S cap v a b ≡ stop v (fault not_data a)
    unfolding write_call
    write_outside cap b k = ap (λ d. cond d (write_at T S (T.depth (T.parent a)) cap v a b) (stop v (fault not_data a))) (le-ltb a T.data_lines k)
