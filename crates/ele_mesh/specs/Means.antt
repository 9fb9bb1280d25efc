-- Means, no part of what is promised: faces chained by a hash of their vertices, and what the functions hand on.
use Rattle.std.specs.Prelude.{ℕ, ◌*◌, ◌≤◌, ◌<◌, ◌≡◌, false, List, [], ◌∷◌, eqb, length, get_or, take}
use Rattle.mesh_build.specs.Build.{NewLink}
use Rattle.ele_text.specs.Text.{max_triangles, vertices, triangles}
use Rattle.std.specs.Prelude.{None, Some, Ok, Err, suc}
use Rattle.std.specs.declared.option.Option.{Option}
use Rattle.std.specs.declared.result.Result.{Result}
use Rattle.encoding.specs.declared.refusal.Refusal.{Refusal}
use Rattle.encoding.specs.Refusals.{refusal_number}
use Rattle.ele_mesh.specs.declared.chain.Chains.{Chains}
use Rattle.ele_mesh.specs.declared.check.Found.{Found}
use Rattle.ele_faces.specs.Faces.{latest_below, three_faces}
use Rattle.ele_faces.specs.Means.{hash_of, Whole}
use Rattle.ele_mesh.specs.Calls.{triangle_refusal}

-- how many hashes there are at most
abbrev pub hashes : ℕ
hashes = 65521

-- a number of hashes
pub record Modulus (m : ℕ) : Type 0 where
  pub some : 1 ≤ m
  pub most : m ≤ hashes

-- the latest face below n with hash h, and 1 more; 0 where there is none
unfoldable pub latest_hashed : List ℕ → ℕ → ℕ → ℕ → ℕ
latest_hashed vs m n h = latest_below n (λ f. eqb (hash_of vs m f) h)

-- the n first faces are chained: for each hash its latest face, for each face the latest before it with its hash
pub record Chained (vs : List ℕ) (m : ℕ) (heads links : List ℕ) (n : ℕ) : Type 0 where
  pub head : (h : ℕ) → h < m → get_or heads h 0 ≡ latest_hashed vs m n h
  pub link : (f : ℕ) → f < n → get_or links f 0 ≡ latest_hashed vs m f (hash_of vs m f)

-- the first places hold 0
abbrev pub Blank : List ℕ → ℕ → Type 0
Blank heads n = (h : ℕ) → h < n → get_or heads h 0 ≡ 0

-- room for chains
pub record Room (heads links : List ℕ) : Type 0 where
  pub hashed : hashes ≤ length heads
  pub faces : 3 * max_triangles ≤ length links

-- all faces are chained
pub record Ready (vs : List ℕ) (m : ℕ) (heads links : List ℕ) : Type 0 where
  pub whole : Whole vs
  pub modulus : Modulus m
  pub hashed : hashes ≤ length heads
  pub faces : 3 * max_triangles ≤ length links
  pub chains : Chained vs m heads links (length vs)

-- a link as a row
abbrev pub link_row : NewLink → List ℕ
link_row l = l.neighbour ∷ l.face ∷ l.orientation ∷ []

-- all faces of a struct
abbrev pub AllChained : Chains → Type 0
AllChained c = Ready c.vs.now c.modulus c.heads.now c.links.now

-- a face that is met, and 1 more; 0 where there is none
abbrev pub place_of : Option ℕ → ℕ
place_of None = 0
place_of (Some g) = suc g

-- what is needed to write the mesh of a text
pub record Given (text vs heads links : List ℕ) (s : Found) : Type 0 where
  pub refusal : 0 ≡ triangle_refusal text
  pub count : s.count ≡ triangles text
  pub within : s.count ≤ max_triangles
  pub filled : take (3 * s.count) vs ≡ vertices text
  pub ready : Ready (vertices text) s.modulus heads links

-- or the refusal of the text
abbrev pub Surveyed : List ℕ → List ℕ → List ℕ → List ℕ → Result Found Refusal → Type 0
Surveyed text vs heads links (Err e) = refusal_number e ≡ triangle_refusal text
Surveyed text vs heads links (Ok s) = Given text vs heads links s

-- n triangles whose mesh can be written
pub record Drawn (vs : List ℕ) (m : ℕ) (heads links : List ℕ) (n : ℕ) : Type 0 where
  pub some : 1 ≤ n
  pub many : length vs ≡ 3 * n
  pub ready : Ready vs m heads links
  pub pairs : three_faces vs ≡ false

-- those of a struct
abbrev pub AllDrawn : Chains → ℕ → Type 0
AllDrawn c n = Drawn c.vs.now c.modulus c.heads.now c.links.now n
