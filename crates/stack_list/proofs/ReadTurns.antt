-- The turns of the loop that reads a list. The idea: the lines from here on, judged with the counts so far, decide about the whole text,
-- and the numbers so far with those of the lines left are the whole text's. Assumes nothing.
use mathlib.Core.Path.{◌≡◌, refl, sym, ap, ◌∙◌}
use mathlib.Core.Bool.{Bool, true, false, cond, ◌&&◌}
use mathlib.Core.List.{List, [], ◌∷◌, ◌++◌, map, append_assoc, append-nil}
use Prim.Native.Nat.{ℕ, suc, ◌+◌, ◌-◌, ◌*◌, ◌≤◌, ◌<◌}
use native.Mathlib.Omega.{arith}
use borrow.Author.Tests.{ltb-true, lt-ltb}
use lib.Dec.{ltb}
use lib.ListN.{length, take, drop, set, length-set, length-drop, drop_of_length-le}
use lib.Seq.{drop-drop, take_all, take-suc-set, length-take-le}
use Rattle.codec.proofs.Truth.{and_left, and_right}
use Rattle.std.specs.Prelude.{Option, Some, None}
use Rattle.lines.specs.Columns.{read_from}
use Rattle.stack_list.specs.declared.reading.Read.{Read}
use Rattle.stack_list.specs.ListForm.{lines_of, is_blank, plate_in, is_list}
use Rattle.stack_list.specs.Inner.Turns.{first_line, plate_or0, read_line, list_from, Listed}
use Rattle.stack_list.proofs.Cut.{first_take, first_within, lines_step, after_line}
use Rattle.stack_list.proofs.Judged.{plate_read, judged}

-- ---- the line at a place

module _ (text : List ℕ) (at : ℕ) (h : at < length text) where
  abbrev line_end : ℕ
  line_end = at + length (first_line (drop at text))

  -- from what is left of the text, lent as a part of it
  abbrev rest : List ℕ
  rest = take (length text - at) (drop at text)

  pub end_at : (n : ℕ) → n ≡ length (first_line rest) → at + n ≡ line_end
  end_at n e =
      let w : rest ≡ drop at text = take_all (length text - at) (drop at text) (omega (arith, length-drop at text)) in
      ap (λ (k : ℕ). at + k) (e ∙ ap (λ (s : List ℕ). length (first_line s)) w)

  pub end_within : line_end ≤ length text
  end_within = omega (arith, first_within (drop at text), length-drop at text)

  pub line_at : (end : ℕ) → end ≡ line_end → take (end - at) (drop at text) ≡ first_line (drop at text)
  line_at end e =
      let n : end - at ≡ length (first_line (drop at text)) = omega arith in
      rw n (first_take (drop at text))

  pub lines_on : (end : ℕ) → end ≡ line_end
      → lines_of (drop at text) ≡ first_line (drop at text) ∷ lines_of (drop (cond (ltb end (length text)) (suc end) (length text)) text)
  lines_on end e =
      let l : 0 < length (drop at text) = omega (arith, length-drop at text) in
      let n : at + suc (length (first_line (drop at text))) ≡ suc end = omega arith in
      lines_step (drop at text) l
      ∙ ap (λ (s : List ℕ). first_line (drop at text) ∷ lines_of s)
      (drop-drop (suc (length (first_line (drop at text)))) at text ∙ ap (λ (k : ℕ). drop k text) n ∙ sym (after_line text end))

  -- where the next line begins lies further on, and within the text
  pub next_place : (end : ℕ) → end ≡ line_end
      → (at < cond (ltb end (length text)) (suc end) (length text)) × (cond (ltb end (length text)) (suc end) (length text) ≤ length text)
  next_place end e = go (ltb end (length text)) refl
    where
      go : (t : Bool) → ltb end (length text) ≡ t → (at < cond t (suc end) (length text)) × (cond t (suc end) (length text) ≤ length text)
      go true f = (omega arith, ltb-true end (length text) f)
      go false f = (h, omega arith)

-- ---- a line, read

went : (t : Bool) (x r : Read) → Some r ≡ cond t (Some x) None → (t ≡ true) × (r ≡ x)
went true x r e = (refl, cc)
went false x r e = cc

stopped : (t : Bool) (x : Read) → None ≡ cond t (Some x) None → t ≡ false
stopped true x e = cc
stopped false x e = refl

module _ (a n : ℕ) where
  blank : Read
  blank = record { number = 0; stacks = suc a; plates = 0 }

  plate : List ℕ → Read
  plate line = record { number = plate_or0 line; stacks = a; plates = suc n }

  pub goes_on : (line : List ℕ) (ls : List (List ℕ)) (r : Read) → Some r ≡ read_line line a n
      → (list_from a n (line ∷ ls) ≡ list_from r.stacks r.plates ls) × (r.number ≡ plate_in line)
  unfolding read_line list_from is_blank read_from blank plate
  goes_on [] ls r e = let w = went (ltb 0 n && ltb a 16) blank r e in rw w.1 (rw w.0, refl)
  goes_on (b ∷ l) ls r e =
      let w = went (ltb n 24 && ltb 0 (plate_or0 (b ∷ l))) (plate (b ∷ l)) r e in
      let p = ltb-true 0 (plate_or0 (b ∷ l)) (and_right (ltb n 24) (ltb 0 (plate_or0 (b ∷ l))) w.0) in
      rw w.1 (rw w.0, (plate_read (b ∷ l) p).1.1)

  pub ends_here : (line : List ℕ) (ls : List (List ℕ)) → None ≡ read_line line a n → list_from a n (line ∷ ls) ≡ false
  unfolding read_line list_from is_blank blank plate
  ends_here [] ls e = rw (stopped (ltb 0 n && ltb a 16) blank e)
  ends_here (b ∷ l) ls e = rw (stopped (ltb n 24 && ltb 0 (plate_or0 (b ∷ l))) (plate (b ∷ l)) e)

  -- the counts stay within the sizes, and the lines within the room for them
  pub counts_on : (line : List ℕ) (k : ℕ) (r : Read) → 1 ≤ a → a ≤ 16 → n ≤ 24 → k + 25 ≤ 25 * a + n → Some r ≡ read_line line a n
      → (1 ≤ r.stacks) × ((r.stacks ≤ 16) × ((r.plates ≤ 24) × (k + 1 + 25 ≤ 25 * r.stacks + r.plates)))
  unfolding read_line is_blank blank plate
  counts_on [] k r h i m j e =
      let w = went (ltb 0 n && ltb a 16) blank r e in
      let l = ltb-true a 16 (and_right (ltb 0 n) (ltb a 16) w.0) in
      rw w.1 (omega arith, (omega arith, (omega arith, omega arith)))
  counts_on (b ∷ l) k r h i m j e =
      let w = went (ltb n 24 && ltb 0 (plate_or0 (b ∷ l))) (plate (b ∷ l)) r e in
      let l = ltb-true n 24 (and_left (ltb n 24) (ltb 0 (plate_or0 (b ∷ l))) w.0) in
      rw w.1 (h, (i, (omega arith, omega arith)))

-- ---- the numbers

-- a number more
number_on : (ns : List ℕ) (k v : ℕ) (rest : List ℕ) → k < length ns → take (k + 1) (set ns k v) ++ rest ≡ take k ns ++ (v ∷ rest)
number_on ns k v rest h =
    let e : k + 1 ≡ suc k = omega arith in
    rw (e, take-suc-set ns k v h) (append_assoc (take k ns) (v ∷ []) rest)

-- where the loop stands
pub record Reading (text first ns : List ℕ) (at lines stacks plates : ℕ) : Type 0 where
  pub within : at ≤ length text
  pub same : length ns ≡ length first
  pub some : 1 ≤ stacks
  pub few : stacks ≤ 16
  pub low : plates ≤ 24
  pub room : lines + 25 ≤ 25 * stacks + plates
  pub decides : list_from stacks plates (lines_of (drop at text)) ≡ is_list text
  pub whole : take lines ns ++ map plate_in (lines_of (drop at text)) ≡ map plate_in (lines_of text)

pub reading_first : (text ns : List ℕ) → Reading text ns ns 0 0 1 0
reading_first text ns = record {
  within = omega arith;
  same = refl;
  some = omega arith;
  few = omega arith;
  low = omega arith;
  room = omega arith;
  decides = judged text;
  whole = refl;
}

module _ (text first ns : List ℕ) (at lines stacks plates : ℕ) (v : Reading text first ns at lines stacks plates) (full : 399 ≤ length first)
  where
    module _ (h : at < length text) (end : ℕ) (e : end ≡ line_end text at h) where
      abbrev line : List ℕ
      line = first_line (drop at text)

      abbrev next : ℕ
      next = cond (ltb end (length text)) (suc end) (length text)

      as_read : (o : Option Read) → o ≡ read_line (take (end - at) (drop at text)) stacks plates → o ≡ read_line line stacks plates
      as_read o q = rw (line_at text at h end e) at q

      lines_left : lines_of (drop at text) ≡ line ∷ lines_of (drop next text)
      lines_left = lines_on text at h end e

      pub stops : None ≡ read_line (take (end - at) (drop at text)) stacks plates → is_list text ≡ false
      stops q =
          sym v.decides ∙ ap (list_from stacks plates) lines_left
          ∙ ends_here stacks plates line (lines_of (drop next text)) (as_read None q)

      module _ (r : Read) (q : Some r ≡ read_line (take (end - at) (drop at text)) stacks plates) where
        counts : (1 ≤ r.stacks) × ((r.stacks ≤ 16) × ((r.plates ≤ 24) × (lines + 1 + 25 ≤ 25 * r.stacks + r.plates)))
        counts = counts_on stacks plates line lines r v.some v.few v.low v.room (as_read (Some r) q)

        pub room_left : lines < length ns
        room_left = omega (arith, counts.1.0, counts.1.1.0, counts.1.1.1, v.same)

        pub reading_on : (at' : ℕ) → at' ≡ next → Reading text first (set ns lines r.number) at' (lines + 1) r.stacks r.plates
        reading_on at' a =
            let f = goes_on stacks plates line (lines_of (drop next text)) r (as_read (Some r) q) in
            rw a
            (record {
              within = (next_place text at h end e).1;
              same = simp length-set v.same;
              some = counts.0;
              few = counts.1.0;
              low = counts.1.1.0;
              room = counts.1.1.1;
              decides = sym f.0 ∙ sym (ap (list_from stacks plates) lines_left) ∙ v.decides;
              whole =
                  number_on ns lines r.number (map plate_in (lines_of (drop next text))) room_left
                  ∙ ap (λ (n : ℕ). take lines ns ++ (n ∷ map plate_in (lines_of (drop next text)))) f.1
                  ∙ ap (λ (l : List (List ℕ)). take lines ns ++ map plate_in l) (sym lines_left)
                  ∙ v.whole;
            })

    pub list_read : length text ≤ at → (plates ≡ 0 → ⊥) → Listed text (take lines ns)
    unfolding lines_of list_from
    list_read h s =
        let d : drop at text ≡ [] = drop_of_length-le text h in
        let l : lines ≤ length ns = omega (arith, v.room, v.few, v.low, v.same) in
        let n : length (take lines ns) ≡ lines = length-take-le lines ns l in
        record {
          is = sym (rw d at v.decides) ∙ lt-ltb 0 plates (omega arith);
          most = omega (arith, v.room, v.few, v.low);
          each = sym (append-nil (take lines ns)) ∙ (rw d at v.whole);
        }

    pub none_in_last : length text ≤ at → plates ≡ 0 → is_list text ≡ false
    unfolding lines_of list_from
    none_in_last h z =
        let d : drop at text ≡ [] = drop_of_length-le text h in
        sym (rw (d, z) at v.decides)
