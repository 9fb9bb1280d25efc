-- Laws of the message that the rule names: its length, what is read back from it, its layout, and what it depends on.
use Prim.Native.Nat.{ℕ, zero, suc, ◌+◌, ◌-◌, ◌*◌, ◌≤◌, ◌<◌}
use native.Mathlib.Nat.{le_refl, add-zero}
use native.Mathlib.Omega.{arith}
use mathlib.Core.Path.{◌≡◌, refl, sym, ap, ap₂, ◌∙◌}
use mathlib.Core.Bool.{Bool, true, false, ◌&&◌, ◌||◌}
use mathlib.Core.List.{List, [], ◌∷◌, ◌++◌, append_assoc, append-nil}
use lib.Dec.{ltb, eqb}
use lib.ListN.{length, get_or, drop, length-append, length-drop, get_or-append}
use lib.Seq.{take-append-le, drop-append-le, drop-append-add, take_all, take_at, drop_at, get_or_at}
use borrow.Author.Tests.{eqb-false, lt-ltb, eq-eqb}
use Rattle.encoding.specs.Below.{count_below, kept_below}
use Rattle.encoding.specs.Numbers.{le_value, le_bytes, le_at, u32_at}
use Rattle.encoding.specs.Pieces.{piece}
use Rattle.encoding.proofs.Below.{tests, either, clash, and_fst, and_intro, below_suc, all_intro, count_same, count_le, kept_length, kept_found, kept_ascends}
use Rattle.encoding.proofs.Numbers.{bytes_length, value_bytes}
use Rattle.encoding.proofs.Pieces.{piece_length}
use Rattle.offsets.specs.Limits.{max_ranks}
use Rattle.offsets.specs.Table.{ranks, trees, holds}
use Rattle.offsets.proofs.Tables.{ranks_high_lem, trees_high}
use Rattle.records.specs.Shape.{dimension_of, face_count}
use Rattle.records.specs.Record.{core_size, tree_size, number_of, shape_of, neighbour_of, in_form}
use Rattle.records.proofs.Forms.{piece_piece}
use Rattle.pattern.specs.Sender.{Tables, sends, sent_first, sent_count}
use Rattle.pattern.proofs.Senders.{sender_holds, sends_true}
use Rattle.pattern.proofs.Sets.{new_below, sent_below, sent_in}
use Rattle.mesh.specs.Mesh.{mesh_header, mesh_dimension, mesh_trees, dimension_ok, mesh_core, mesh_record, mesh_sound}
use Rattle.mesh.proofs.Soundness.{header_parts, sound_header, sound_fits, sound_core, sound_form, sound_number, sound_shape, neighbour_below}
use Rattle.part.specs.Ghosts.{is_ghost}
use Rattle.message.specs.Layout.{message_tree_place, message_size, message_header_bytes, message_epoch, message_dimension, message_k, message_p, message_sender, message_receiver, message_trees, message_ghosts, message_tree, message_ghost, record_laid, size_laid, after_last, records_laid, in_layout}
use Rattle.message.specs.Rule.{sends_beside, considers, sends_ghost, trees_from, ghost_goes, ghosts_going, rule_message}
use Rattle.message.specs.Means.{mesh_message}
use Rattle.message.proofs.Ghosts.{sends_considers, considers_held}

-- ---- pieces of two lists

piece_first : (a b : List ℕ) (off n : ℕ) → off + n ≤ length a → piece (a ++ b) off n ≡ piece a off n
unfolding piece
piece_first a b off n h =
    let l : n ≤ length (drop off a) = simp length-drop (omega arith) in
    rw (drop-append-le off a b (omega arith), take-append-le n (drop off a) b l)

piece_later : (a b : List ℕ) (m off n : ℕ) → length a ≡ m → piece (a ++ b) (m + off) n ≡ piece b off n
unfolding piece
piece_later a b m off n e = rw (← e, drop-append-add a b off)

piece_last : (a b : List ℕ) (off n : ℕ) → length a ≡ off → length b ≡ n → piece (a ++ b) off n ≡ b
unfolding piece
piece_last a b off n e l = rw (drop_at a b off e) (take_all n b (omega arith))

piece_start : (a b : List ℕ) (n : ℕ) → length a ≡ n → piece (a ++ b) 0 n ≡ a
unfolding piece
piece_start a b n e = take_at a b n e

-- ---- the header

-- numbers of 32 bits in a row
unfoldable words : List ℕ → List ℕ
words [] = []
words (v ∷ vs) = le_bytes 4 v ++ words vs

-- number i is read back
word_at_lem : (vs rest : List ℕ) (i : ℕ) → i < length vs → get_or vs i 0 < 4294967296 → u32_at (words vs ++ rest) (4 * i) ≡ get_or vs i 0
unfolding words le_at
word_at_lem [] rest i h b = absurd (omega arith)
word_at_lem (v ∷ vs) rest zero h b = rw append_assoc (ap le_value (piece_start (le_bytes 4 v) (words vs ++ rest) 4 (bytes_length 4 v)) ∙ value_bytes 4 v b)
word_at_lem (v ∷ vs) rest (suc i) h b =
    let e : 4 * suc i ≡ 4 + 4 * i = omega arith in
    rw (append_assoc, e) (ap le_value (piece_later (le_bytes 4 v) (words vs ++ rest) 4 (4 * i) 4 (bytes_length 4 v)) ∙ word_at_lem vs rest i (omega arith) b)

module _ (epoch dimension K P sender receiver n g : ℕ) where
  -- eight numbers
  pub header_length : length (message_header_bytes epoch dimension K P sender receiver n g) ≡ 32
  unfolding message_header_bytes
  header_length = simp (length-append, bytes_length)

  module _ (rest : List ℕ) where
    abbrev numbers : List ℕ
    numbers = epoch ∷ dimension ∷ K ∷ P ∷ sender ∷ receiver ∷ n ∷ g ∷ []

    abbrev whole : List ℕ
    whole = message_header_bytes epoch dimension K P sender receiver n g ++ rest

    header_at : (i : ℕ) → i < 8 → get_or numbers i 0 < 4294967296 → u32_at whole (4 * i) ≡ get_or numbers i 0
    unfolding words message_header_bytes
    header_at i h b = rw (← append-nil (le_bytes 4 g)) (word_at_lem numbers rest i h b)

    -- each of them is read back from a message that begins with them
    header-epoch : epoch < 4294967296 → message_epoch (message_header_bytes epoch dimension K P sender receiver n g ++ rest) ≡ epoch
    unfolding message_epoch
    header-epoch h = header_at 0 (omega arith) h

    pub header_dimension : dimension < 4294967296 → message_dimension (message_header_bytes epoch dimension K P sender receiver n g ++ rest) ≡ dimension
    unfolding message_dimension
    header_dimension h = header_at 1 (omega arith) h

    header-K : K < 4294967296 → message_k (message_header_bytes epoch dimension K P sender receiver n g ++ rest) ≡ K
    unfolding message_k
    header-K h = header_at 2 (omega arith) h

    header-P : P < 4294967296 → message_p (message_header_bytes epoch dimension K P sender receiver n g ++ rest) ≡ P
    unfolding message_p
    header-P h = header_at 3 (omega arith) h

    header-sender : sender < 4294967296 → message_sender (message_header_bytes epoch dimension K P sender receiver n g ++ rest) ≡ sender
    unfolding message_sender
    header-sender h = header_at 4 (omega arith) h

    header-receiver : receiver < 4294967296 → message_receiver (message_header_bytes epoch dimension K P sender receiver n g ++ rest) ≡ receiver
    unfolding message_receiver
    header-receiver h = header_at 5 (omega arith) h

    header-trees : n < 4294967296 → message_trees (message_header_bytes epoch dimension K P sender receiver n g ++ rest) ≡ n
    unfolding message_trees
    header-trees h = header_at 6 (omega arith) h

    header-ghosts : g < 4294967296 → message_ghosts (message_header_bytes epoch dimension K P sender receiver n g ++ rest) ≡ g
    unfolding message_ghosts
    header-ghosts h = header_at 7 (omega arith) h

dimension_small : (d : ℕ) → dimension_ok d ≡ true → d < 4294967296
unfolding dimension_ok
dimension_small d e =
    either (eqb d 2) (λ a. omega tests)
    (λ a. let b : eqb d 3 ≡ true = rw a at e in omega tests)

-- ---- records laid out

-- a core with number k that a message of this dimension and K may hold: in form, a shape of the dimension, neighbours of used faces below K
pub record CoreLaid (dimension K k : ℕ) (r : List ℕ) : Type 0 where
  pub form : in_form k r ≡ true
  pub number : number_of r ≡ k
  pub shape : dimension_of (shape_of r) ≡ dimension
  pub below : (f : ℕ) → f < face_count (shape_of r) → neighbour_of r f < K

module _ (m : List ℕ) (dimension K : ℕ) (is_dimension : message_dimension m ≡ dimension) (is-K : message_k m ≡ K) where
  core-laid : (k : ℕ) (r : List ℕ) → CoreLaid dimension K k r → record_laid m r ≡ true
  unfolding record_laid
  core-laid k r c =
      rw (is_dimension, is-K, c.number, c.form, eq-eqb (dimension_of (shape_of r)) dimension c.shape)
      (all_intro (face_count (shape_of r)) (λ f. ltb (neighbour_of r f) K) (λ f h. lt-ltb (neighbour_of r f) K (c.below f h)))

  -- such records with ascending numbers
  cores-laid : (count : ℕ) (r : ℕ → List ℕ) (number : ℕ → ℕ) → ((i : ℕ) → i < count → CoreLaid dimension K (number i) (r i))
      → ((i j : ℕ) → i < j → j < count → number i < number j) → records_laid m count r ≡ true
  unfolding records_laid after_last
  cores-laid count r number c ascends =
      all_intro count (λ i. record_laid m (r i) && after_last r i)
      (λ i h. and_intro (record_laid m (r i)) (after_last r i) (core-laid (number i) (r i) (c i h))
      (either (eqb i 0) (λ e. rw e)
      (λ e. let n : i ≡ 0 → ⊥ = eqb-false i 0 e in
      rw (e, (c i h).number, (c (i - 1) (omega arith)).number) (lt-ltb (number (i - 1)) (number i) (ascends (i - 1) i (omega arith) h)))))

-- ---- the records

module _ (core : ℕ → List ℕ) (old new : List ℕ) (hand : ℕ → Bool) (tree_record : ℕ → List ℕ) (p q : ℕ) where
  abbrev goes : ℕ → Bool
  goes = ghost_goes core old new hand tree_record p q

  -- n trees from k on, of 64 bytes each
  module _ (k : ℕ) where
    trees_length : (n : ℕ) → ((i : ℕ) → i < n → length (tree_record (k + i)) ≡ tree_size) → length (trees_from core old new hand tree_record p q k n) ≡ tree_size * n
    unfolding trees_from
    trees_length zero l = refl
    trees_length (suc n) l = rw (length-append, trees_length n (λ i h. l i (omega arith)), l n (le_refl (suc n))) (omega arith)

    trees-at : (n : ℕ) → ((i : ℕ) → i < n → length (tree_record (k + i)) ≡ tree_size) → (i : ℕ) → i < n
        → piece (trees_from core old new hand tree_record p q k n) (tree_size * i) tree_size ≡ tree_record (k + i)
    unfolding trees_from
    trees-at zero l i h = absurd (omega arith)
    trees-at (suc n) l i h =
        let l' : (j : ℕ) → j < n → length (tree_record (k + j)) ≡ tree_size = λ j a. l j (omega arith) in
        let R : List ℕ = trees_from core old new hand tree_record p q k n in
        let lR : length R ≡ tree_size * n = trees_length n l' in
        below_suc i n h
        (λ a. piece_first R (tree_record (k + n)) (tree_size * i) tree_size (omega arith) ∙ trees-at n l' i a)
        (λ e. piece_last R (tree_record (k + n)) (tree_size * i) tree_size (rw e lR) (l n (le_refl (suc n))) ∙ ap (λ (j : ℕ). tree_record (k + j)) (sym e))

  -- the ghosts below K that go, of 40 bytes each
  ghosts-length : (K : ℕ) → ((g : ℕ) → g < K → goes g ≡ true → length (core g) ≡ core_size) → length (ghosts_going core old new hand tree_record p q K) ≡ core_size * count_below K goes
  unfolding ghosts_going count_below
  ghosts-length zero l = refl
  ghosts-length (suc k) l =
      either (goes k)
      (λ t. rw (length-append, ghosts-length k (λ j a. l j (omega arith)), t) (omega (arith, l k (le_refl (suc k)) t)))
      (λ t. rw (length-append, ghosts-length k (λ j a. l j (omega arith)), t) (omega arith))

  ghosts-at : (K : ℕ) → ((g : ℕ) → g < K → goes g ≡ true → length (core g) ≡ core_size) → (j : ℕ) → j < count_below K goes
      → piece (ghosts_going core old new hand tree_record p q K) (core_size * j) core_size ≡ core (get_or (kept_below K goes) j 0)
  unfolding ghosts_going count_below kept_below
  ghosts-at zero l j h = absurd (omega arith)
  ghosts-at (suc k) l j h =
      let l' : (g : ℕ) → g < k → goes g ≡ true → length (core g) ≡ core_size = λ g a. l g (omega arith) in
      let G : List ℕ = ghosts_going core old new hand tree_record p q k in
      let n : ℕ = count_below k goes in
      let lG : length G ≡ core_size * n = ghosts-length k l' in
      let lK : length (kept_below k goes) ≡ n = kept_length k goes in
      either (goes k)
      (λ t. let h' : j < n + 1 = rw t at h in
      rw t
      (below_suc j n (omega arith)
      (λ a. piece_first G (core k) (core_size * j) core_size (omega arith) ∙ ghosts-at k l' j a ∙ ap core (sym (get_or-append (kept_below k goes) (k ∷ []) 0 j (omega arith))))
      (λ e. piece_last G (core k) (core_size * j) core_size (rw e lG) (l k (le_refl (suc k)) t) ∙ ap core (sym (get_or_at (kept_below k goes) k [] 0 j (omega arith))))))
      (λ t. let h' : j < n = omega (arith, rw t at h) in
      rw (t, append-nil G, append-nil (kept_below k goes)) (ghosts-at k l' j h'))

  -- the records that the message takes have their sizes
  pub record RecordsLong : Type 0 where
    pub trees_long : (k : ℕ) → sends old new p q k ≡ true → length (tree_record k) ≡ tree_size
    pub ghosts_long : (g : ℕ) → g < trees old → ghost_goes core old new hand tree_record p q g ≡ true → length (core g) ≡ core_size

  -- those records are laid out; of a tree record, its core
  pub record RuleLaid (dimension : ℕ) : Type 0 where
    pub long : RecordsLong
    pub trees_laid : (k : ℕ) → sends old new p q k ≡ true → CoreLaid dimension (trees old) k (piece (tree_record k) 0 core_size)
    pub ghosts_laid : (g : ℕ) → g < trees old → ghost_goes core old new hand tree_record p q g ≡ true → CoreLaid dimension (trees old) g (core g)

  -- ---- the message, read back

  module _ (T : Tables old new) (is_sender : p < ranks old) (is-receiver : q < ranks old) where
    -- how many trees and ghosts it has, and its first tree
    abbrev n : ℕ
    n = sent_count old new p q

    abbrev many : ℕ
    many = count_below (trees old) goes

    abbrev first : ℕ
    first = sent_first old new p q

    abbrev records : List ℕ
    records = trees_from core old new hand tree_record p q first n ++ ghosts_going core old new hand tree_record p q (trees old)

    -- all below 2 ^ 32
    few_trees : trees old ≤ 1048576
    few_trees = trees_high old T.old_bytes T.old_ranks T.old_valid

    few_ranks : ranks old ≤ max_ranks
    few_ranks = ranks_high_lem old T.old_bytes T.old_ranks T.old_valid

    few-sent : n ≤ 1048576
    few-sent = omega (arith, sent_below old new T p q is_sender is-receiver, few_trees)

    few_ghosts : many ≤ 1048576
    few_ghosts = omega (arith, count_le (trees old) goes, few_trees)

    module _ (epoch dimension : ℕ) where
      abbrev message : List ℕ
      message = rule_message core old new hand tree_record p q epoch dimension

      -- the numbers of its header are read back
      pub message_epoch_lem : epoch < 4294967296 → message_epoch message ≡ epoch
      unfolding rule_message
      message_epoch_lem h = header-epoch epoch dimension (trees old) (ranks old) p q n many records h

      pub message_dimension_lem : dimension < 4294967296 → message_dimension message ≡ dimension
      unfolding rule_message
      message_dimension_lem h = header_dimension epoch dimension (trees old) (ranks old) p q n many records h

      pub message_k_lem : message_k message ≡ trees old
      unfolding rule_message
      message_k_lem = header-K epoch dimension (trees old) (ranks old) p q n many records (omega (arith, few_trees))

      pub message_p_lem : message_p message ≡ ranks old
      unfolding rule_message
      message_p_lem = header-P epoch dimension (trees old) (ranks old) p q n many records (omega (arith, few_ranks))

      pub message_sender_lem : message_sender message ≡ p
      unfolding rule_message
      message_sender_lem = header-sender epoch dimension (trees old) (ranks old) p q n many records (omega (arith, few_ranks))

      pub message_receiver_lem : message_receiver message ≡ q
      unfolding rule_message
      message_receiver_lem = header-receiver epoch dimension (trees old) (ranks old) p q n many records (omega (arith, few_ranks))

      pub message_trees_lem : message_trees message ≡ sent_count old new p q
      unfolding rule_message
      message_trees_lem = header-trees epoch dimension (trees old) (ranks old) p q n many records (omega (arith, few-sent))

      pub message_ghosts_lem : message_ghosts message ≡ count_below (trees old) (ghost_goes core old new hand tree_record p q)
      unfolding rule_message
      message_ghosts_lem = header-ghosts epoch dimension (trees old) (ranks old) p q n many records (omega (arith, few_ghosts))

      module _ (long : RecordsLong) where
        tree_long : (i : ℕ) → i < n → length (tree_record (first + i)) ≡ tree_size
        tree_long i h = long.trees_long (first + i) (sent_in old new T p q is_sender is-receiver (first + i) (omega arith) (omega arith))

        header-long : length (message_header_bytes epoch dimension (trees old) (ranks old) p q n many) ≡ 32
        header-long = header_length epoch dimension (trees old) (ranks old) p q n many

        sent-long : length (trees_from core old new hand tree_record p q first n) ≡ tree_size * n
        sent-long = trees_length first n tree_long

        -- the length of the message
        pub message_length : length message ≡ message_size (sent_count old new p q) (count_below (trees old) (ghost_goes core old new hand tree_record p q))
        unfolding rule_message
        message_length = rw (length-append, header-long, length-append, sent-long, ghosts-length (trees old) long.ghosts_long)

        -- tree i, with its data
        pub message_record : (i : ℕ) → i < sent_count old new p q → piece message (message_tree_place i) tree_size ≡ tree_record (sent_first old new p q + i)
        unfolding rule_message
        message_record i h =
            piece_later (message_header_bytes epoch dimension (trees old) (ranks old) p q n many) records 32 (tree_size * i) tree_size header-long
            ∙ piece_first (trees_from core old new hand tree_record p q first n) (ghosts_going core old new hand tree_record p q (trees old)) (tree_size * i) tree_size (omega (arith, sent-long))
            ∙ trees-at first n tree_long i h

        -- its core
        pub message_tree_lem : (i : ℕ) → i < sent_count old new p q → message_tree message i ≡ piece (tree_record (sent_first old new p q + i)) 0 core_size
        unfolding message_tree
        message_tree_lem i h =
            let e : piece message (message_tree_place i + 0) core_size ≡ piece message (message_tree_place i) core_size = ap (λ (at : ℕ). piece message at core_size) (add-zero (message_tree_place i)) in
            sym e ∙ sym (piece_piece message (message_tree_place i) tree_size 0 core_size (omega arith)) ∙ ap (λ (r : List ℕ). piece r 0 core_size) (message_record i h)

        -- ghost j is the core of the ghost with j before it that go
        pub message_ghost_lem : (j : ℕ) → j < count_below (trees old) (ghost_goes core old new hand tree_record p q)
            → message_ghost message j ≡ core (get_or (kept_below (trees old) (ghost_goes core old new hand tree_record p q)) j 0)
        unfolding message_ghost rule_message
        message_ghost_lem j h =
            rw message_trees_lem
            (piece_later (message_header_bytes epoch dimension (trees old) (ranks old) p q n many) records 32 (tree_size * n + core_size * j) core_size header-long
            ∙ piece_later (trees_from core old new hand tree_record p q first n) (ghosts_going core old new hand tree_record p q (trees old)) (tree_size * n) (core_size * j) core_size sent-long
            ∙ ghosts-at (trees old) long.ghosts_long j h)

      -- ---- its layout

      -- the message is in layout
      pub rule_in_layout : dimension_ok dimension ≡ true → RuleLaid dimension → in_layout message ≡ true
      unfolding in_layout size_laid
      rule_in_layout d laid =
          let is_dimension : message_dimension message ≡ dimension = message_dimension_lem (dimension_small dimension d) in
          let size : eqb (length message) (message_size n many) ≡ true = eq-eqb (length message) (message_size n many) (message_length laid.long) in
          let trees_laid : records_laid message n (message_tree message) ≡ true =
          cores-laid message dimension (trees old) is_dimension message_k_lem n (message_tree message) (λ i. first + i)
          (λ i h. rw (message_tree_lem laid.long i h) (laid.trees_laid (first + i) (sent_in old new T p q is_sender is-receiver (first + i) (omega arith) (omega arith))))
          (λ i j l h. omega arith) in
          let number : ℕ → ℕ = λ j. get_or (kept_below (trees old) goes) j 0 in
          let ghosts_laid : records_laid message many (message_ghost message) ≡ true =
          cores-laid message dimension (trees old) is_dimension message_k_lem many (message_ghost message) number
          (λ j h. let f = kept_found (trees old) goes j 0 h in rw (message_ghost_lem laid.long j h) (laid.ghosts_laid (number j) f.0 f.1))
          (λ i j l h. kept_ascends (trees old) goes i j 0 l h) in
          rw (message_trees_lem, message_ghosts_lem, is_dimension, d, size, trees_laid, ghosts_laid)

-- ---- the message of a sound mesh

module _ (mesh old new : List ℕ) (sound : mesh_sound mesh ≡ true) (same : mesh_trees mesh ≡ trees old) (T : Tables old new) (p q : ℕ) (is-receiver : q < ranks old) where
  record_core : (k : ℕ) → piece (mesh_record mesh k) 0 core_size ≡ mesh_core mesh k
  unfolding mesh_record mesh_core
  record_core k = piece_piece mesh (mesh_header + tree_size * k) tree_size 0 core_size (omega arith) ∙ ap (λ (at : ℕ). piece mesh at core_size) (add-zero (mesh_header + tree_size * k))

  mesh-core-laid : (k : ℕ) → k < trees old → CoreLaid (mesh_dimension mesh) (trees old) k (mesh_core mesh k)
  mesh-core-laid k h =
      let l : k < mesh_trees mesh = omega arith in
      record {
        form = sound_form mesh sound k l;
        number = sound_number mesh sound k l;
        shape = sound_shape mesh sound k l;
        below = λ f a. omega (arith, neighbour_below mesh sound k l f a);
      }

  sent-tree : (k : ℕ) → sends old new p q k ≡ true → k < trees old
  sent-tree k e = new_below old new T q k is-receiver (sends_true old new T p q k e).0

  -- its records have their sizes
  pub mesh_records_long : RecordsLong (mesh_core mesh) old new (λ k. ltb k (mesh_trees mesh)) (mesh_record mesh) p q
  unfolding mesh_record
  mesh_records_long =
      record {
        trees_long = λ k e. piece_length mesh (mesh_header + tree_size * k) tree_size (sound_fits mesh sound k (omega (arith, sent-tree k e)));
        ghosts_long = λ g h e. sound_core mesh sound g (omega arith);
      }

  -- and are laid out
  mesh-rule-laid : RuleLaid (mesh_core mesh) old new (λ k. ltb k (mesh_trees mesh)) (mesh_record mesh) p q (mesh_dimension mesh)
  mesh-rule-laid =
      record {
        long = mesh_records_long;
        trees_laid = λ k e. rw (record_core k) (mesh-core-laid k (sent-tree k e));
        ghosts_laid = λ g h e. mesh-core-laid g h;
      }

  -- so the message is in layout
  pub mesh_in_layout : (epoch : ℕ) → p < ranks old → in_layout (mesh_message mesh old new p q epoch) ≡ true
  unfolding mesh_message
  mesh_in_layout epoch is_sender =
      rule_in_layout (mesh_core mesh) old new (λ k. ltb k (mesh_trees mesh)) (mesh_record mesh) p q T is_sender is-receiver epoch (mesh_dimension mesh) (header_parts mesh (sound_header mesh sound)).0 mesh-rule-laid

-- ---- which records the message depends on

own_core : (core : ℕ → List ℕ) (old new : List ℕ) (p q g : ℕ) → sends_ghost core old new p q g ≡ sends_ghost (λ k. core g) old new p q g
unfolding sends_ghost considers sends_beside is_ghost
own_core core old new p q g = refl

-- whether p sends q tree g as a ghost is read from g's own core
pub same_core : (a b : ℕ → List ℕ) (old new : List ℕ) (p q g : ℕ) → a g ≡ b g → sends_ghost a old new p q g ≡ sends_ghost b old new p q g
same_core a b old new p q g e = own_core a old new p q g ∙ ap (λ (r : List ℕ). sends_ghost (λ k. r) old new p q g) e ∙ sym (own_core b old new p q g)

-- two ways to find records: cores, which of them are at hand, and tree records
module _ (core₁ core₂ : ℕ → List ℕ) (hand₁ hand₂ : ℕ → Bool) (record₁ record₂ : ℕ → List ℕ) (old new : List ℕ) (p q : ℕ) where
  abbrev goes₁ : ℕ → Bool
  goes₁ = ghost_goes core₁ old new hand₁ record₁ p q

  abbrev goes₂ : ℕ → Bool
  goes₂ = ghost_goes core₂ old new hand₂ record₂ p q

  trees_same : (k n : ℕ) → ((i : ℕ) → i < n → record₁ (k + i) ≡ record₂ (k + i)) → trees_from core₁ old new hand₁ record₁ p q k n ≡ trees_from core₂ old new hand₂ record₂ p q k n
  unfolding trees_from
  trees_same k zero e = refl
  trees_same k (suc n) e = ap₂ (λ (a b : List ℕ). a ++ b) (trees_same k n (λ i h. e i (omega arith))) (e n (le_refl (suc n)))

  ghosts-same : (K : ℕ) → ((g : ℕ) → g < K → goes₁ g ≡ goes₂ g) → ((g : ℕ) → g < K → goes₁ g ≡ true → core₁ g ≡ core₂ g)
      → ghosts_going core₁ old new hand₁ record₁ p q K ≡ ghosts_going core₂ old new hand₂ record₂ p q K
  unfolding ghosts_going
  ghosts-same zero s e = refl
  ghosts-same (suc k) s e =
      ap₂ (λ (a b : List ℕ). a ++ b) (ghosts-same k (λ g h. s g (omega arith)) (λ g h. e g (omega arith)))
      (either (goes₁ k)
      (λ t. let u : goes₂ k ≡ true = sym (s k (le_refl (suc k))) ∙ t in rw (t, u, e k (le_refl (suc k)) t))
      (λ t. let u : goes₂ k ≡ false = sym (s k (le_refl (suc k))) ∙ t in rw (t, u)))

  module _ (T : Tables old new) (is_sender : p < ranks old) (is-receiver : q < ranks old) (epoch dimension : ℕ) where
    -- they give the same message where the trees sent, the ghosts that go and the cores of these agree
    pub rule_agrees : ((k : ℕ) → sends old new p q k ≡ true → record₁ k ≡ record₂ k)
        → ((g : ℕ) → g < trees old → ghost_goes core₁ old new hand₁ record₁ p q g ≡ ghost_goes core₂ old new hand₂ record₂ p q g)
        → ((g : ℕ) → g < trees old → ghost_goes core₁ old new hand₁ record₁ p q g ≡ true → core₁ g ≡ core₂ g)
        → rule_message core₁ old new hand₁ record₁ p q epoch dimension ≡ rule_message core₂ old new hand₂ record₂ p q epoch dimension
    unfolding rule_message
    rule_agrees t s e =
        let n : ℕ = sent_count old new p q in
        let first : ℕ = sent_first old new p q in
        ap₂ (λ (c : ℕ) (l : List ℕ). message_header_bytes epoch dimension (trees old) (ranks old) p q n c ++ l) (count_same (trees old) goes₁ goes₂ s)
        (ap₂ (λ (a b : List ℕ). a ++ b)
        (trees_same first n (λ i h. t (first + i) (sent_in old new T p q is_sender is-receiver (first + i) (omega arith) (omega arith))))
        (ghosts-same (trees old) s e))

    -- the second has all trees; the first has the trees that p considers, and has them as the second does
    rule-from-held : ((k : ℕ) → sends old new p q k ≡ true → record₁ k ≡ record₂ k)
        → ((g : ℕ) → g < trees old → hand₂ g ≡ true)
        → ((g : ℕ) → g < trees old → considers core₂ old new p q g ≡ true → hand₁ g ≡ true)
        → ((g : ℕ) → g < trees old → hand₁ g ≡ true → core₁ g ≡ core₂ g)
        → rule_message core₁ old new hand₁ record₁ p q epoch dimension ≡ rule_message core₂ old new hand₂ record₂ p q epoch dimension
    unfolding ghost_goes
    rule-from-held t all held same =
        rule_agrees t
        (λ g h. rw (all g h)
        (either (hand₁ g)
        (λ e. rw e (same_core core₁ core₂ old new p q g (same g h e)))
        (λ e. rw e (either (sends_ghost core₂ old new p q g) (λ d. clash (held g h (sends_considers core₂ old new p q g d)) e) sym))))
        (λ g h e. same g h (and_fst (hand₁ g) (sends_ghost core₁ old new p q g) e))

module _ (core : ℕ → List ℕ) (hand : ℕ → Bool) (tree_record : ℕ → List ℕ) (mesh old : List ℕ) (p : ℕ) where
  -- what a part of rank p must have: the mesh's records of f(p), the cores of these and of its ghosts, and no core that differs from the mesh's
  pub record HasPart : Type 0 where
    pub own_records : (k : ℕ) → k < trees old → holds old p k ≡ true → tree_record k ≡ mesh_record mesh k
    pub has_held : (k : ℕ) → k < trees old → (holds old p k || is_ghost (mesh_core mesh) old p k) ≡ true → hand k ≡ true
    pub same_cores : (k : ℕ) → k < trees old → hand k ≡ true → core k ≡ mesh_core mesh k

  -- then the rule applied to it is the rule applied to the mesh
  pub rule_from_part : (new : List ℕ) (q : ℕ) → Tables old new → p < ranks old → q < ranks old → mesh_trees mesh ≡ trees old → HasPart → (epoch : ℕ)
      → rule_message core old new hand tree_record p q epoch (mesh_dimension mesh) ≡ mesh_message mesh old new p q epoch
  unfolding mesh_message
  rule_from_part new q T is_sender is-receiver same part epoch =
      rule-from-held core (mesh_core mesh) hand (λ k. ltb k (mesh_trees mesh)) tree_record (mesh_record mesh) old new p q T is_sender is-receiver epoch (mesh_dimension mesh)
      (λ k e. let s = sends_true old new T p q k e in
      let h : k < trees old = new_below old new T q k is-receiver s.0 in
      part.own_records k h (rw s.1 at (sender_holds old new T k q h is-receiver)))
      (λ g h. lt-ltb g (mesh_trees mesh) (omega arith))
      (λ g h e. part.has_held g h (considers_held (mesh_core mesh) old new T p q g is-receiver e))
      part.same_cores
