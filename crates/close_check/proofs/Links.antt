-- The links that the code follows in the slots are those of the definition.
use Prim.Native.Nat.{ℕ, ◌+◌, ◌<◌}
use native.Mathlib.Omega.{arith}
use mathlib.Core.Path.{◌≡◌, refl}
use mathlib.Core.List.{List}
use borrow.Author.Tests.{eq-eqb, ne_eqb}
use Rattle.encoding.proofs.Below.{least_is}
use Rattle.records.specs.Record.{number_of, neighbour_of}
use Rattle.mesh.specs.Link.{link_ok}
use Rattle.part.specs.Means.{is_local, ghost_is, held_core, tree_link, ghost_link, in_range}
use Rattle.mesh.specs.Means.{link_between}
use Rattle.part.proofs.Views.{core_tree}
use Rattle.close_check.specs.Means.{tree_from, ghost_from, Slots, tree_to, link_of_tree, ghost_to, link_of_ghost}

link_is : (core : ℕ → List ℕ) (k f : ℕ) → link_ok core k f ≡ link_between k (core k) f (core (neighbour_of (core k) f))
unfolding link_ok link_between
link_is core k f = refl

module _ (a : List ℕ) (at first n g : ℕ) (S : Slots a at first n g) where
  abbrev tree : ℕ → List ℕ
  tree = tree_from a at

  abbrev ghostly : ℕ → List ℕ
  ghostly = ghost_from a at n

  abbrev core : ℕ → List ℕ
  core = held_core first n g (tree_from a at) (ghost_from a at n)

  -- ---- trees

  module _ (i : ℕ) (h : i < n) where
    pub tree_link_is : (f : ℕ) → tree_link first n g (tree_from a at) (ghost_from a at n) (first + i) f ≡ link_of_tree link_between a at first n g i f
    unfolding link_of_tree tree_to tree_link
    tree_link_is f = rw (link_is core (first + i) f, core_tree first n g (tree_from a at) (ghost_from a at n) i h)

  -- ---- ghosts

  module _ (j : ℕ) (h : j < g) where
    pub ghost_here : held_core first n g (tree_from a at) (ghost_from a at n) (number_of (ghost_from a at n j)) ≡ ghost_from a at n j
    unfolding held_core is_local ghost_is in_range
    ghost_here =
        let k : ℕ = number_of (ghost_from a at n j) in
        rw (S.outside j h, least_is g (ghost_is first n g tree ghostly k) j h (eq-eqb k k refl) (λ i p. ne_eqb (number_of (ghost_from a at n i)) k (λ e. omega (arith, S.ascends i j p h))))

    pub ghost_link_is : (K f : ℕ) → ghost_link first n g (tree_from a at) (ghost_from a at n) K (number_of (ghost_from a at n j)) f ≡ link_of_ghost link_between a at first n g K j f
    unfolding link_of_ghost ghost_to ghost_link
    ghost_link_is K f = rw (link_is core (number_of (ghost_from a at n j)) f, ghost_here)
