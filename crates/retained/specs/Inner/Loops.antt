-- What the loops over the retained headers and lift times give, for any chips and any state. Assumes nothing.
use Rattle.std.specs.Prelude.{Bool, true, ◌&&◌, Option, None, Some, List, [], ◌∷◌, ◌++◌, ℕ, ◌-◌, ◌*◌, ◌/◌, ◌≤◌, ◌<◌, ltb}
use Rattle.codec.specs.Number.{number_at}
use Rattle.flash.specs.Chip.{slot_of, pages_of}
use Rattle.carry.specs.declared.Serials.{Serials}
use Rattle.carry.specs.Carried.{header_of}
use Rattle.retained.specs.declared.times.Rise.{Rise}
use Rattle.retained.specs.Retained.{any_from, segment_times, times_from}

-- ---- headers

-- whether the header of a retained closed serial passes a test, which is given serial and header page
abbrev pub any_header : (ℕ → List ℕ → Bool) → Serials → List ℕ → Bool
any_header has s nand = any_from (λ n. has n (header_of nand s.slots n)) (s.current - s.oldest) s.oldest

-- ---- times

-- one time more, and a list of them
abbrev pub is_later : Option ℕ → ℕ → Bool
is_later None t = true
is_later (Some u) t = ltb u t

unfoldable pub rise_with : Rise → ℕ → Rise
rise_with r t = record { rising = r.rising && is_later r.last t; last = Some t }

unfoldable pub rise_over : Rise → List ℕ → Rise
rise_over r [] = r
rise_over r (t ∷ ts) = rise_over (rise_with r t) ts

abbrev pub not_yet : Rise
not_yet = record { rising = true; last = None }

-- all retained lift times, by what a state says of them
abbrev pub times_of : List ℕ → Serials → List ℕ → ℕ → List ℕ
times_of nand s page count =
    times_from nand s.slots (s.current - s.oldest) s.oldest
    ++ segment_times (pages_of nand (slot_of s.current s.slots) 0 20) page (count / 16 * 16) count

-- every retained closed segment counts at most 320 lifts
abbrev pub CountsFit : List ℕ → Serials → Type 0
CountsFit nand s = (n : ℕ) → s.oldest ≤ n → n < s.current → number_at (header_of nand s.slots n) 4 2 ≤ 320
