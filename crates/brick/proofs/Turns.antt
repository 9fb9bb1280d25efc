-- The turns of the loop that writes the trees.
use Prim.Native.Nat.{ℕ, ◌+◌, ◌*◌, ◌≤◌, ◌<◌}
use native.Mathlib.Omega.{arith}
use mathlib.Core.Path.{◌≡◌, ap, ◌∙◌}
use mathlib.Core.Bool.{Bool}
use mathlib.Core.List.{List, [], ◌∷◌}
use lib.Dec.{lit≤}
use lib.ListN.{length}
use Rattle.encoding.specs.Pieces.{splice}
use Rattle.encoding.proofs.Pieces.{length_splice}
use Rattle.records.specs.Shape.{dimension_of, faces_in}
use Rattle.records.specs.Links.{Rows}
use Rattle.mesh_build.specs.Build.{tree_rows, new_header, new_tree, built_trees}
use Rattle.mesh_build.proofs.Building.{header_length, built_rows}
use Rattle.mesh_build.proofs.Writing.{built_start, built_next, built_same, built_done}
use Rattle.brick.specs.Brick.{hexahedron, brick_link, brick_mesh}
use Rattle.brick.specs.Means.{Stands, OnAxis, Room, low_row, high_row}
use Rattle.brick.proofs.Sound.{Within, within, brick_fits}
use Rattle.brick.proofs.Rows.{stands_first, brick_rows, on_first_lem, on_second, on_third}

-- the trees below k are written, and tree k stands at x, y, z; bs is the buffer with the header in it
pub record Turn (a b c : ℕ) (p q r : Bool) (trees : ℕ) (bs : List ℕ) (k x y z : ℕ) (out : List ℕ) : Type 0 where
  pub extents : Within a b c
  pub count : trees ≡ a * b * c
  pub room : 8 + 64 * trees ≤ length bs
  pub most : k ≤ trees
  pub stands : Stands a b k x y z
  pub written : out ≡ splice bs 8 (built_trees hexahedron (brick_link a b c p q r) k)

head_length : (entry : List ℕ) {bs : List ℕ} (trees : ℕ) → 8 ≤ length entry → bs ≡ splice entry 0 (new_header hexahedron trees) → length bs ≡ length entry
head_length entry trees h e = ap length e ∙ length_splice entry 0 (new_header hexahedron trees) (omega (arith, header_length hexahedron trees))

pub turn_start : {a b c : ℕ} (p q r : Bool) (entry : List ℕ) {bs : List ℕ} {trees : ℕ} → Room a b c entry → trees ≡ a * b * c → bs ≡ splice entry 0 (new_header hexahedron trees) → Turn a b c p q r trees bs 0 0 0 0 bs
turn_start {a} {b} {c} p q r entry {bs} {trees} room count head =
    let ok = within a b c room.extents in
    let l : length bs ≡ length entry = head_length entry trees (omega (arith, room.room)) head in
    record {
      extents = ok;
      count = count;
      room = omega (arith, room.room);
      most = omega arith;
      stands = stands_first a b c ok;
      written = built_start hexahedron (brick_link a b c p q r) trees bs;
    }

module _ {a b c : ℕ} {p q r : Bool} {trees : ℕ} {bs : List ℕ} {k x y z : ℕ} {out : List ℕ} (turn : Turn a b c p q r trees bs k x y z out) where
  same : length out ≡ length bs
  same = built_same hexahedron (brick_link a b c p q r) trees bs k turn.room turn.most turn.written

  module _ (more : k < trees) where
    turn_below : k < a * b * c
    turn_below = rw turn.count at more

    -- the numbers stay small
    pub turn_few : k < 262144
    turn_few = omega (arith, turn_below, turn.extents.few)

    -- what the rows need
    pub turn_first : OnAxis k x a 1
    turn_first = on_first_lem a b c p q r turn.extents k x y z turn.stands turn_below

    pub turn_second : OnAxis k y b a
    turn_second = on_second a b c p q r turn.extents k x y z turn.stands turn_below

    pub turn_third : OnAxis k z c (a * b)
    turn_third = on_third a b c p q r turn.extents k x y z turn.stands turn_below

    pub turn_rows : {r0 r1 r2 r3 r4 r5 : List ℕ} → r0 ≡ low_row k x a 1 p 0 → r1 ≡ high_row k x a 1 p 1 → r2 ≡ low_row k y b a q 2 → r3 ≡ high_row k y b a q 3
        → r4 ≡ low_row k z c (a * b) r 4 → r5 ≡ high_row k z c (a * b) r 5 → (r0 ∷ r1 ∷ r2 ∷ r3 ∷ r4 ∷ r5 ∷ []) ≡ tree_rows hexahedron (brick_link a b c p q r k)
    turn_rows = brick_rows a b c p q r turn.extents k x y z turn.stands turn_below

    module _ {rows : List (List ℕ)} (row : rows ≡ tree_rows hexahedron (brick_link a b c p q r k)) where
      pub turn_room : (8 + 64 * k + 64 ≤ length out) × ((hexahedron < 256) × Rows rows (faces_in (dimension_of hexahedron)))
      turn_room =
          (omega (arith, same, turn.room, more), (lit≤ tt, rw row (built_rows hexahedron (brick_link a b c p q r) (a * b * c) (brick_fits a b c p q r turn.extents) k turn_below)))

      pub turn_next : {next : List ℕ} {x' y' z' : ℕ} → next ≡ splice out (8 + 64 * k) (new_tree k hexahedron rows) → Stands a b (k + 1) x' y' z' → Turn a b c p q r trees bs (k + 1) x' y' z' next
      turn_next e s =
          record {
            extents = turn.extents;
            count = turn.count;
            room = turn.room;
            most = omega arith;
            stands = s;
            written = built_next hexahedron (brick_link a b c p q r) trees bs k turn.room more turn.written row e;
          }

  module _ (entry : List ℕ) (long : 8 ≤ length entry) (head : bs ≡ splice entry 0 (new_header hexahedron trees)) where
    -- the buffer stays as long
    pub turn_same : length out ≡ length entry
    turn_same = same ∙ head_length entry trees long head

    pub turn_done : trees ≤ k → out ≡ splice entry 0 (brick_mesh a b c p q r)
    unfolding brick_mesh
    turn_done h = rw (← turn.count) (built_done hexahedron (brick_link a b c p q r) trees bs entry k long turn.most h head turn.written)
