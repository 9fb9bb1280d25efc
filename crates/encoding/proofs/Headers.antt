-- A header of eight numbers, written number by number.
use Prim.Native.Nat.{ℕ, zero, suc, ◌+◌, ◌*◌, ◌≤◌, ◌<◌}
use native.Mathlib.Numerals.{add-one}
use native.Mathlib.Omega.{arith}
use mathlib.Core.Path.{◌≡◌, refl, sym, ap, ◌∙◌}
use mathlib.Core.List.{List, [], ◌++◌, append_assoc}
use lib.ListN.{length, get_or, length-append}
use Rattle.encoding.specs.Pieces.{splice}
use Rattle.encoding.specs.Numbers.{le_bytes, put_u32}
use Rattle.encoding.specs.Header.{eight_of}
use Rattle.encoding.proofs.Pieces.{splice_none}
use Rattle.encoding.proofs.Numbers.{bytes_length, put_next, length_put}

-- the bytes of the first i numbers of a list
unfoldable pub first_bytes : List ℕ → ℕ → List ℕ
first_bytes ns zero = []
first_bytes ns (suc i) = first_bytes ns i ++ le_bytes 4 (get_or ns i 0)

-- the first i numbers stand at the beginning of bs
pub record Begun (bs ns : List ℕ) (i : ℕ) (mid : List ℕ) : Type 0 where
  pub many : length (first_bytes ns i) ≡ 4 * i
  pub begins : mid ≡ splice bs 0 (first_bytes ns i)
  pub same_length : length mid ≡ length bs

module _ (bs ns : List ℕ) (room : 32 ≤ length bs) where
  pub begun_none : Begun bs ns 0 bs
  unfolding first_bytes
  begun_none = record { many = refl; begins = sym (splice_none bs 0); same_length = refl }

  -- one more number
  pub begun_next : (i : ℕ) {mid next : List ℕ} → i < 8 → Begun bs ns i mid → next ≡ put_u32 mid (4 * i) (get_or ns i 0) → Begun bs ns (i + 1) next
  unfolding first_bytes
  begun_next i {mid} {next} h w p =
      let v : ℕ = get_or ns i 0 in
      record {
        many = rw add-one (rw (length-append, bytes_length 4 v, w.many) (omega arith));
        begins = rw add-one (p ∙ ap (λ (m : List ℕ). put_u32 m (4 * i) v) w.begins ∙ put_next 4 v (4 * i) bs (first_bytes ns i) w.many (omega arith));
        same_length = rw p (length_put 4 mid (4 * i) v (omega (arith, w.same_length))) ∙ w.same_length;
      }

  -- all eight
  pub begun_all : {mid : List ℕ} → Begun bs ns 8 mid → mid ≡ splice bs 0 (eight_of ns)
  unfolding first_bytes
  begun_all w = w.begins ∙ ap (splice bs 0) (simp append_assoc)
