-- The counts that are kept beside the state, by plate (document 02, W-210): one place changed for each lift. A lift is given by its stored load.
-- Assumes nothing.
use Rattle.std.specs.Prelude.{Bool, cond, ◌&&◌, List, [], ◌∷◌, ℕ, ◌+◌, ◌-◌, ◌*◌, ltb, get_or, set}
use Rattle.std.proofs.Math.Option.{Option, none, some}
use Rattle.flash.specs.Chip.{page_of, pages_of, header_last, tree_first}
use Rattle.lift.specs.Limits.{load_of, code_ok}
use Rattle.lift.specs.Record.{code_at, record_width}
use Rattle.plate.specs.Total.{total}
use Rattle.plate.specs.Plate.{plate_of}
use Rattle.bloom.specs.Pages.{each}
use Rattle.form.specs.declared.Form.{Form}
use Rattle.header.specs.Header.{header_in}

-- "Counts with a sum above 1,310,720 break ground 3."
abbrev pub counts_most : ℕ
counts_most = 1310720

abbrev pub counts_broken : List ℕ → Bool
counts_broken counts = ltb counts_most (total counts)

-- the count of the lift's plate
abbrev pub count_for : List ℕ → ℕ → ℕ
count_for counts code = get_or counts (plate_of (load_of code)) 0

-- one lift more, and one less
unfoldable pub one_more : List ℕ → ℕ → List ℕ
one_more counts code = set counts (plate_of (load_of code)) (count_for counts code + 1)

unfoldable pub one_less : List ℕ → ℕ → List ℕ
one_less counts code = set counts (plate_of (load_of code)) (count_for counts code - 1)

-- less these lifts, one after the other: "a load there past its limit, or a count that would fall below zero, is damage", which is none
unfoldable pub counted_down : List ℕ → List ℕ → Option (List ℕ)
counted_down counts [] = some counts
counted_down counts (code ∷ codes) = cond (code_ok code && ltb 0 (count_for counts code)) (counted_down (one_less counts code) codes) none

-- the lifts of a closed segment, as many as its header counts; they stand in pages 0 to 19 of its slot
unfoldable pub codes_in : List ℕ → ℕ → ℕ → List ℕ
codes_in nand slot count = each (λ p. code_at (pages_of nand slot 0 tree_first) (p * record_width)) 0 count

-- "A drop that keeps counts reads the dropped segment's header and lifts": the counts without the segment in this slot; its header is judged
-- as any header, its serial below the open one
unfoldable pub without_segment : Form → List ℕ → ℕ → ℕ → ℕ → List ℕ → Option (List ℕ)
without_segment f nand slots slot before counts =
    let h = header_in f (page_of nand slot header_last) slots before in
    cond h.good (counted_down counts (codes_in nand slot h.count)) none
