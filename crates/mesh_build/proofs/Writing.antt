-- What the writers leave: the header, a record made of words, and the mesh tree by tree.
use Prim.Native.Nat.{ℕ, ◌+◌, ◌*◌, ◌/◌, ◌%◌, ◌≤◌, ◌<◌}
use native.Mathlib.Omega.{arith}
use native.Mathlib.Numerals.{add-one}
use lib.Dec.{lit≤}
use mathlib.Core.Path.{◌≡◌, refl, sym, ap, ◌∙◌}
use mathlib.Core.List.{List, [], ◌∷◌, ◌++◌}
use lib.ListN.{length}
use Rattle.std.specs.Int.{w64, from_le_bytes}
use Rattle.encoding.specs.Numbers.{le_bytes, put_u32, le_put}
use Rattle.encoding.specs.Pieces.{splice}
use Rattle.encoding.specs.declared.record.Words40.{Words40}
use Rattle.encoding.specs.Words.{word_bytes, bytes40, bytes64}
use Rattle.encoding.proofs.Numbers.{bytes_length}
use Rattle.encoding.proofs.Pieces.{length_splice, splice_none, splice_then}
use Rattle.records.specs.Shape.{dimension_of, faces_in}
use Rattle.records.specs.Record.{tree_size}
use Rattle.records.specs.Links.{cell, neighbour_bytes, code_bytes, with_rows, Rows}
use Rattle.mesh.specs.Mesh.{mesh_header}
use Rattle.mesh_build.specs.Build.{NewLink, tree_rows, new_core, new_tree, new_header, built_trees, built_mesh}
use Rattle.mesh_build.proofs.Records.{byte_next}
use Rattle.mesh_build.proofs.Building.{header_length, trees_length}

-- the header, number by number
pub header_written : (bs : List ℕ) (shape K : ℕ) {mid last : List ℕ} → mesh_header ≤ length bs → mid ≡ put_u32 bs 0 (dimension_of shape) → last ≡ put_u32 mid 4 K → last ≡ splice bs 0 (new_header shape K)
unfolding new_header le_put
header_written bs shape K h e q = splice_then bs 0 4 (le_bytes 4 (dimension_of shape)) (le_bytes 4 K) (bytes_length 4 (dimension_of shape)) (omega arith) e q

-- ---- a record

none_above : {a b c d e f : ℕ} → ◌≡◌ {A = List ℕ} (a ∷ b ∷ c ∷ d ∷ e ∷ f ∷ le_bytes 2 0) (a ∷ b ∷ c ∷ d ∷ e ∷ f ∷ 0 ∷ 0 ∷ [])
unfolding le_bytes
none_above = refl

-- six bytes as a word
six_bytes : (a b c d e f : ℕ) → a < 256 → b < 256 → c < 256 → d < 256 → e < 256 → f < 256
    → le_bytes 8 (a + 256 * b + 65536 * c + 16777216 * d + 4294967296 * e + 1099511627776 * f) ≡ (a ∷ b ∷ c ∷ d ∷ e ∷ f ∷ 0 ∷ 0 ∷ [])
six_bytes a b c d e f ha hb hc hd he hf =
    let n : a + 256 * b + 65536 * c + 16777216 * d + 4294967296 * e + 1099511627776 * f ≡ a + 256 * (b + 256 * (c + 256 * (d + 256 * (e + 256 * (f + 256 * 0))))) = omega arith in
    rw (
      n,
      byte_next 7 a (b + 256 * (c + 256 * (d + 256 * (e + 256 * (f + 256 * 0))))) ha,
      byte_next 6 b (c + 256 * (d + 256 * (e + 256 * (f + 256 * 0)))) hb,
      byte_next 5 c (d + 256 * (e + 256 * (f + 256 * 0))) hc,
      byte_next 4 d (e + 256 * (f + 256 * 0)) hd,
      byte_next 3 e (f + 256 * 0) he,
      byte_next 2 f 0 hf,
    )
    none_above

pub codes_word : (rows : List (List ℕ)) (F : ℕ) → Rows rows F → {a b c d e f : ℕ}
    → a ≡ cell rows 0 2 * F + cell rows 0 1 → b ≡ cell rows 1 2 * F + cell rows 1 1 → c ≡ cell rows 2 2 * F + cell rows 2 1
    → d ≡ cell rows 3 2 * F + cell rows 3 1 → e ≡ cell rows 4 2 * F + cell rows 4 1 → f ≡ cell rows 5 2 * F + cell rows 5 1
    → {word : ℕ} → word ≡ from_le_bytes w64 (a ∷ b ∷ c ∷ d ∷ e ∷ f ∷ 0 ∷ 0 ∷ []) → le_bytes 8 word ≡ code_bytes rows F 6 ++ (0 ∷ 0 ∷ [])
unfolding code_bytes
codes_word rows F hold {a} {b} {c} {d} {e} {f} pa pb pc pd pe pf {word} w =
    let v : word ≡ a + 256 * b + 65536 * c + 16777216 * d + 4294967296 * e + 1099511627776 * f = w ∙ (omega arith) in
    ap (le_bytes 8) v ∙ six_bytes a b c d e f
    (omega (arith, hold.codes 0 (lit≤ tt))) (omega (arith, hold.codes 1 (lit≤ tt))) (omega (arith, hold.codes 2 (lit≤ tt)))
    (omega (arith, hold.codes 3 (lit≤ tt))) (omega (arith, hold.codes 4 (lit≤ tt))) (omega (arith, hold.codes 5 (lit≤ tt)))
    ∙ rw (pa, pb, pc, pd, pe, pf)

shape_bytes : (shape : ℕ) → shape < 256 → le_bytes 4 shape ≡ (shape ∷ 0 ∷ 0 ∷ 0 ∷ [])
unfolding le_bytes
shape_bytes shape h =
    let m : shape % 256 ≡ shape = omega arith in
    let d : shape / 256 ≡ 0 = omega arith in
    rw (m, d)

tree_parts : (k shape : ℕ) (rows : List (List ℕ))
    → (le_bytes 4 k ++ (shape ∷ 0 ∷ 0 ∷ 0 ∷ []))
    ++ ((le_bytes 4 (cell rows 0 0) ++ le_bytes 4 (cell rows 1 0))
    ++ ((le_bytes 4 (cell rows 2 0) ++ le_bytes 4 (cell rows 3 0))
    ++ ((le_bytes 4 (cell rows 4 0) ++ le_bytes 4 (cell rows 5 0))
    ++ ((code_bytes rows (faces_in (dimension_of shape)) 6 ++ (0 ∷ 0 ∷ [])) ++ []))))
    ++ word_bytes (0 ∷ 0 ∷ 0 ∷ []) ≡ new_tree k shape rows
unfolding le_bytes neighbour_bytes code_bytes with_rows splice new_core new_tree word_bytes
tree_parts k shape rows = refl

-- the record, stored as words
pub tree_stored_lem : (bs : List ℕ) (k shape : ℕ) (rows : List (List ℕ)) (r : Words40) {at faces : ℕ} {last : List ℕ}
    → shape < 256 → at ≡ mesh_header + tree_size * k → faces ≡ faces_in (dimension_of shape) → last ≡ splice bs at (bytes64 (record { core = r; w5 = 0; w6 = 0; w7 = 0 }))
    → le_bytes 8 r.w0 ≡ le_bytes 4 k ++ le_bytes 4 shape → le_bytes 8 r.w1 ≡ le_bytes 4 (cell rows 0 0) ++ le_bytes 4 (cell rows 1 0)
    → le_bytes 8 r.w2 ≡ le_bytes 4 (cell rows 2 0) ++ le_bytes 4 (cell rows 3 0) → le_bytes 8 r.w3 ≡ le_bytes 4 (cell rows 4 0) ++ le_bytes 4 (cell rows 5 0)
    → le_bytes 8 r.w4 ≡ code_bytes rows faces 6 ++ (0 ∷ 0 ∷ []) → last ≡ splice bs (mesh_header + tree_size * k) (new_tree k shape rows)
unfolding bytes64 bytes40 word_bytes
tree_stored_lem bs k shape rows r h place by e e0 e1 e2 e3 e4 = rw (place, e0, e1, e2, e3, e4, by, shape_bytes shape h, tree_parts k shape rows) at e

-- ---- tree by tree

trees_more : (shape : ℕ) (link : ℕ → ℕ → NewLink) (k : ℕ) → built_trees shape link k ++ new_tree k shape (tree_rows shape (link k)) ≡ built_trees shape link (k + 1)
unfolding built_trees
trees_more shape link k = rw add-one refl

-- bs is the buffer with the header in it
module _ (shape : ℕ) (link : ℕ → ℕ → NewLink) (K : ℕ) (bs : List ℕ) where
  pub built_start : bs ≡ splice bs mesh_header (built_trees shape link 0)
  unfolding built_trees
  built_start = sym (splice_none bs mesh_header)

  pub built_next : {mid next : List ℕ} {rows : List (List ℕ)} (k : ℕ) → mesh_header + tree_size * K ≤ length bs → k < K
      → mid ≡ splice bs mesh_header (built_trees shape link k) → rows ≡ tree_rows shape (link k) → next ≡ splice mid (mesh_header + tree_size * k) (new_tree k shape rows)
      → next ≡ splice bs mesh_header (built_trees shape link (k + 1))
  built_next {mid} {next} {rows} k room h e r q =
      let b : List ℕ = new_tree k shape (tree_rows shape (link k)) in
      let q' : next ≡ splice mid (mesh_header + tree_size * k) b = rw r at q in
      splice_then bs mesh_header (tree_size * k) (built_trees shape link k) b (trees_length shape link k) (omega arith) e q' ∙ ap (splice bs mesh_header) (trees_more shape link k)

  -- the buffer stays as long
  pub built_same : {mid : List ℕ} (k : ℕ) → mesh_header + tree_size * K ≤ length bs → k ≤ K → mid ≡ splice bs mesh_header (built_trees shape link k) → length mid ≡ length bs
  built_same k room h e = ap length e ∙ length_splice bs mesh_header (built_trees shape link k) (omega (arith, trees_length shape link k))

  -- all of it, in the buffer before the header
  pub built_done : (entry : List ℕ) {last : List ℕ} (k : ℕ) → mesh_header ≤ length entry → k ≤ K → K ≤ k → bs ≡ splice entry 0 (new_header shape K)
      → last ≡ splice bs mesh_header (built_trees shape link k) → last ≡ splice entry 0 (built_mesh shape link K)
  unfolding built_mesh
  built_done entry k room p q b e =
      let n : k ≡ K = omega arith in
      splice_then entry 0 mesh_header (new_header shape K) (built_trees shape link K) (header_length shape K) (omega arith) b (rw n at e)
