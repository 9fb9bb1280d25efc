-- The fresh area for two tables, a rank, a dimension and an epoch: words and slots zero.
use Rattle.std.specs.Prelude.{ℕ, false, List, [], replicate}
use Rattle.records.specs.Record.{tree_size}
use Rattle.area.specs.Layout.{area_with}

unfoldable pub fresh_area : List ℕ → List ℕ → ℕ → ℕ → ℕ → List ℕ
fresh_area old new rank dimension epoch = area_with epoch dimension old new rank (λ s. false) (λ i. replicate tree_size 0) 0 []
