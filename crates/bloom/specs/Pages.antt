-- Document 01, "Bloom and skip list": a segment's sections in NOR and the Bloom buffer, and in its two Bloom pages.
use Rattle.std.specs.Prelude.{Bool, cond, List, [], ◌∷◌, ◌++◌, ℕ, zero, suc, ◌+◌, ◌-◌, ◌*◌, ◌/◌, ◌%◌, min, eqb, length, get_or, take}
use Rattle.flash.specs.Chip.{page_width, tree_width}
use Rattle.codec.specs.Area.{part, repeated}
use Rattle.bloom.specs.Bloom.{section_of, lifts_per_section, section_width}

-- f at the n numbers from `from` on, in order
unfoldable pub each {ℓ} : {A : Type ℓ} → (ℕ → A) → ℕ → ℕ → List A
each f from zero = []
each f from (suc n) = f from ∷ each f (suc from) n

-- "Each 64 lifts make a section"
abbrev pub section_count : ℕ → ℕ
section_count count = (count + (lifts_per_section - 1)) / lifts_per_section

-- "page 30 is used only for five sections"
abbrev pub five_sections : ℕ → Bool
five_sections count = eqb (section_count count) 5

-- "fragment length L is the smaller of 128 and 512 div s"
unfoldable pub fragment_length : ℕ → ℕ
fragment_length s = min section_width (page_width / s)

-- a segment's sections, by the codes of its lifts in order of arrival
unfoldable pub segment_sections : List ℕ → List (List ℕ)
segment_sections codes = each (λ j. section_of (part codes (lifts_per_section * j) lifts_per_section)) 0 (section_count (length codes))

-- whole section j of the open segment: "Bloom sections of 128 from 4,608" in NOR
abbrev pub nor_section : List ℕ → ℕ → List ℕ
nor_section nor j = part nor (tree_width + section_width * j) section_width

-- the open segment's sections: the whole ones from NOR, then "a part-filled section .. from its buffer"
unfoldable pub sections_from : List ℕ → List ℕ → ℕ → List (List ℕ)
sections_from nor buffer count = each (nor_section nor) 0 (count / lifts_per_section) ++ cond (eqb (count % lifts_per_section) 0) [] (buffer ∷ [])

-- "bytes iL to iL+L−1" of a section, "bytes past a section's end .. 0"
unfoldable pub fragment : ℕ → ℕ → List ℕ → List ℕ
fragment L i section = each (λ k. get_or section (i * L + k) 0) 0 L

-- a fragment "of each section in turn"
unfoldable pub fragments : ℕ → ℕ → List (List ℕ) → List ℕ
fragments L i [] = []
fragments L i (s ∷ ss) = fragment L i s ++ fragments L i ss

-- bytes, and "the rest of the page 0"
unfoldable pub zero_filled : List ℕ → List ℕ
zero_filled l = l ++ repeated (page_width - length l) 0

-- Bloom page i, 0 or 1
unfoldable pub bloom_page : List (List ℕ) → ℕ → List ℕ
bloom_page ss i = zero_filled (fragments (fragment_length (length ss)) i ss)

-- section j read back from both Bloom pages with fragments of L bytes
unfoldable pub section_in : List ℕ → ℕ → ℕ → List ℕ
section_in pages L j = take section_width (part pages (j * L) L ++ part pages (page_width + j * L) L)

-- the s sections of both Bloom pages
unfoldable pub sections_in : List ℕ → ℕ → List (List ℕ)
sections_in pages s = each (section_in pages (fragment_length s)) 0 s
