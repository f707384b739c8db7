-- A count down never raises the sum of the counts. Assumes nothing.
use mathlib.Core.Path.{◌≡◌}
use mathlib.Core.Bool.{Bool, true, false, cond, ◌&&◌}
use mathlib.Core.Option.{none, some, none-ne-some}
use mathlib.Core.List.{List, [], ◌∷◌}
use Prim.Native.Nat.{ℕ, zero, suc, ◌-◌, ◌≤◌}
use native.Mathlib.Omega.{arith}
use lib.Dec.{ltb}
use lib.ListN.{get_or, set}
use Rattle.flash.specs.Chip.{page_of}
use Rattle.lift.specs.Limits.{load_of, code_ok}
use Rattle.plate.specs.Total.{total}
use Rattle.plate.specs.Plate.{plate_of}
use Rattle.form.specs.declared.Form.{Form}
use Rattle.header.specs.Header.{header_in}
use Rattle.counts.specs.Counts.{count_for, one_less, counted_down, codes_in, without_segment}

total_less : (counts : List ℕ) (p : ℕ) → total (set counts p (get_or counts p 0 - 1)) ≤ total counts
unfolding total
total_less [] p = omega arith
total_less (n ∷ counts) zero = omega arith
total_less (n ∷ counts) (suc p) = omega (arith, total_less counts p)

down_total : (codes counts next : List ℕ) → counted_down counts codes ≡ some next → total next ≤ total counts
unfolding counted_down one_less
down_total [] counts next e = let f : counts ≡ next = cc e in rw f (omega arith)
down_total (code ∷ codes) counts next e =
    go (code_ok code && ltb 0 (count_for counts code)) (λ f. omega (arith, down_total codes (one_less counts code) next f, total_less counts (plate_of (load_of code)))) e
  where
    go : (t : Bool) → (counted_down (one_less counts code) codes ≡ some next → total next ≤ total counts)
        → cond t (counted_down (one_less counts code) codes) none ≡ some next → total next ≤ total counts
    go true h f = h f
    go false h f = absurd (none-ne-some next f)

pub segment_total : (f : Form) (nand : List ℕ) (slots slot before : ℕ) (counts next : List ℕ)
    → without_segment f nand slots slot before counts ≡ some next → total next ≤ total counts
unfolding without_segment
segment_total f nand slots slot before counts next e = go (header_in f (page_of nand slot 31) slots before).good e
  where
    codes : List ℕ
    codes = codes_in nand slot (header_in f (page_of nand slot 31) slots before).count

    go : (t : Bool) → cond t (counted_down counts codes) none ≡ some next → total next ≤ total counts
    go true g = down_total codes counts next g
    go false g = absurd (none-ne-some next g)
