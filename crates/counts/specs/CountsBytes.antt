-- The counts as bytes (document 02, W-214): "Kept counts are an area of 88 bytes, 4 each", little-endian. Assumes nothing.
use Rattle.std.specs.Prelude.{List, ℕ, ◌*◌}
use Rattle.codec.specs.Number.{bytes, number_at}
use Rattle.plate.specs.Plate.{plates}
use Rattle.bloom.specs.Pages.{each}
use Rattle.loads.specs.Signed.{side_by_side}

abbrev pub counts_length : ℕ
counts_length = 4 * plates

unfoldable pub counts_bytes : List ℕ → List ℕ
counts_bytes counts = side_by_side (bytes 4) counts

-- the counts in such an area
unfoldable pub counts_in : List ℕ → List ℕ
counts_in area = each (λ i. number_at area (4 * i) 4) 0 plates
