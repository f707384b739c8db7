-- The turns of the loop that prints the ends, and what all its lines are: the ends of the stacks that the text lists. Assumes nothing.
use mathlib.Core.Path.{◌≡◌, refl, sym, ap, ◌∙◌}
use mathlib.Core.Bool.{Bool, true, false, cond}
use mathlib.Core.List.{List, [], ◌∷◌, ◌++◌, map, append_assoc, append-nil}
use Prim.Native.Nat.{ℕ, suc, ◌+◌, ◌*◌, ◌/◌, ◌≤◌, ◌<◌}
use native.Mathlib.Omega.{arith}
use borrow.Author.Tests.{eq-eqb, ne_eqb}
use lib.Dec.{eqb}
use lib.ListN.{length, take, drop, get_or, set, length-append, length-set, drop_of_length-le}
use lib.Seq.{drop-cons, take_at, length-take-le}
use Rattle.codec.specs.Area.{splice, repeated}
use Rattle.codec.proofs.Areas.{splice_next, length_splice}
use Rattle.plate.specs.Stack.{ends_of}
use Rattle.plate.proofs.Ends.{plate_sizes, running, ends_running}
use Rattle.lines.specs.Columns.{read_from}
use Rattle.answers.specs.Printed.{number, justified, digits, digits_within}
use Rattle.answers.proofs.Justified.{length_justified}
use Rattle.answers.proofs.Printing.{byte_stored}
use Rattle.stack_list.specs.ListForm.{lines_of, is_blank, at_top, by_stacks, plate_in, is_list, stacks_in, ended, further, text_of, list_text}
use Rattle.stack_list.specs.Generated.{refusal}
use Rattle.stack_list.specs.Inner.Turns.{list_from, end_line, turn_lines, sum_on, end_lines}
use Rattle.stack_list.proofs.Cut.{some_stack}
use Rattle.stack_list.proofs.Judged.{blank_goes_on, plate_goes_on, judged}

-- ---- one line

length_number : (v : ℕ) → length (number 6 v) ≡ 6
length_number v = length_justified 6 _

line_long : (end : ℕ) → length (end_line end) ≡ 7
unfolding end_line
line_long end = let l = length_number end in simp length-append (omega arith)

pub end_put : (s : List ℕ) (at end : ℕ) → at + 7 ≤ length s → (s' : List ℕ) → s' ≡ splice s at (number 6 end) → length s' ≡ length s
    → set s' (at + 6) 10 ≡ splice s at (end_line end)
unfolding end_line
end_put s at end h s' e k =
    let l = length_number end in
    byte_stored s' (at + 6) 10 (omega arith)
    ∙ ap (λ (t : List ℕ). splice t (at + 6) (10 ∷ [])) e
    ∙ splice_next s at (number 6 end) (at + 6) (10 ∷ []) (omega arith) (omega arith)

-- ---- the lines of a turn

module _ (s s' : List ℕ) (at at' sum above n : ℕ) (h : at + 8 ≤ length s) (r : at' ≡ at + 7) where
  pub blank_put : n ≡ 0 → s' ≡ splice s at (end_line (sum + above / 2)) → length s' ≡ length s
      → (set s' at' 10 ≡ splice s at (turn_lines sum above n)) × (at' + 1 ≡ at + length (turn_lines sum above n))
  unfolding turn_lines
  blank_put z e k =
      let l = line_long (sum + above / 2) in
      let m : length (end_line (sum + above / 2) ++ (10 ∷ [])) ≡ 8 = simp length-append (omega arith) in
      rw (eq-eqb n 0 z) (
        byte_stored s' at' 10 (omega arith)
            ∙ ap (λ (t : List ℕ). splice t at' (10 ∷ [])) e
            ∙ splice_next s at (end_line (sum + above / 2)) at' (10 ∷ []) (omega arith) (omega arith),
        omega arith,
      )

  pub plate_put : (n ≡ 0 → ⊥) → s' ≡ splice s at (end_line (sum + n / 2))
      → (s' ≡ splice s at (turn_lines sum above n)) × (at' ≡ at + length (turn_lines sum above n))
  unfolding turn_lines
  plate_put z e = let l = line_long (sum + n / 2) in rw (ne_eqb n 0 z) (e, omega arith)

lines_most : (sum above n : ℕ) → length (turn_lines sum above n) ≤ 8
unfolding turn_lines
lines_most sum above n = go (eqb n 0)
  where
    go : (t : Bool) → length (cond t (end_line (sum + above / 2) ++ (10 ∷ [])) (end_line (sum + n / 2))) ≤ 8
    go true = let l = line_long (sum + above / 2) in simp length-append (omega arith)
    go false = let l = line_long (sum + n / 2) in omega arith

sum_most : (sum n : ℕ) → sum_on sum n ≤ sum + n
sum_most sum n = go (eqb n 0)
  where
    go : (t : Bool) → cond t 0 (sum + n) ≤ sum + n
    go true = omega arith
    go false = omega arith

-- ---- a turn

take_splice : (s : List ℕ) (at : ℕ) (p : List ℕ) → at + length p ≤ length s → take (at + length p) (splice s at p) ≡ take at s ++ p
unfolding splice
take_splice s at p h =
    let k : length (take at s) ≡ at = length-take-le at s (omega arith) in
    take_at (take at s ++ p) (drop (at + length p) s) (at + length p) (simp (length-append, k) refl)

-- "15 alone": two digits and the line feed
fifteen : number 2 15 ≡ 49 ∷ 53 ∷ []
unfolding justified digits digits_within repeated
fifteen = refl

pub refusal_put : (s : List ℕ) → 3 ≤ length s → (s' : List ℕ) → s' ≡ splice s 0 (number 2 15) → length s' ≡ length s
    → (3 ≤ length (set s' 2 10)) × (take 3 (set s' 2 10) ≡ refusal)
refusal_put s h s' e k =
    let p : set s' 2 10 ≡ splice s 0 refusal =
    byte_stored s' 2 10 (omega arith)
    ∙ ap (λ (t : List ℕ). splice t 2 (10 ∷ [])) (e ∙ ap (splice s 0) fifteen)
    ∙ splice_next s 0 (49 ∷ 53 ∷ []) 2 (10 ∷ []) refl (omega arith) in
    (simp length-set (omega arith), rw p (take_splice s 0 refusal (omega arith)))

lines_on : (s : List ℕ) (at sum above i : ℕ) (ns : List ℕ) → i < length ns → at + 8 ≤ length s
    → take (at + length (turn_lines sum above (get_or ns i 0))) (splice s at (turn_lines sum above (get_or ns i 0)))
    ++ end_lines (sum_on sum (get_or ns i 0)) (get_or ns i 0) (drop (i + 1) ns)
    ≡ take at s ++ end_lines sum above (drop i ns)
unfolding end_lines
lines_on s at sum above i ns h k =
    let e : i + 1 ≡ suc i = omega arith in
    let m = lines_most sum above (get_or ns i 0) in
    rw (e, drop-cons ns i 0 h, take_splice s at (turn_lines sum above (get_or ns i 0)) (omega arith))
    (append_assoc (take at s) (turn_lines sum above (get_or ns i 0)) _)

-- where the loop stands: what is printed, with the lines left, is the whole
pub record Printed (numbers first out : List ℕ) (sum above at i : ℕ) : Type 0 where
  pub within : i ≤ length numbers
  pub same : length out ≡ length first
  pub room : at ≤ 8 * i
  pub small : sum ≤ 4294967296 * i
  pub above_fits : above < 4294967296
  pub whole : take at out ++ end_lines sum above (drop i numbers) ≡ end_lines 0 0 numbers

module _ (numbers first out : List ℕ) (sum above at i : ℕ) (v : Printed numbers first out sum above at i)
    (r : 8 * length numbers + 7 ≤ length first) where
  pub printed_on : i < length numbers → get_or numbers i 0 < 4294967296 → (out' : List ℕ) (sum' at' : ℕ)
      → out' ≡ splice out at (turn_lines sum above (get_or numbers i 0)) → at' ≡ at + length (turn_lines sum above (get_or numbers i 0))
      → sum' ≡ sum_on sum (get_or numbers i 0)
      → Printed numbers first out' sum' (get_or numbers i 0) at' (i + 1)
  printed_on h n out' sum' at' p q s =
      let m = lines_most sum above (get_or numbers i 0) in
      let k = sum_most sum (get_or numbers i 0) in
      let w : at + 8 ≤ length out = omega (arith, v.room, v.same) in
      let l = length_splice out at (turn_lines sum above (get_or numbers i 0)) (omega arith) in
      record {
        within = omega arith;
        same = ap length p ∙ l ∙ v.same;
        room = omega (arith, v.room);
        small = omega (arith, v.small);
        above_fits = n;
        whole = rw (p, q, s) (lines_on out at sum above i numbers h w ∙ v.whole);
      }

  -- at the end the last end of the last stack
  pub printed_all : length numbers ≤ i → (out' : List ℕ) (at' : ℕ) → out' ≡ splice out at (end_line (sum + above / 2)) → at' ≡ at + 7
      → (at' ≤ length out') × (take at' out' ≡ end_lines 0 0 numbers)
  unfolding end_lines
  printed_all h out' at' p q =
      let d : drop i numbers ≡ [] = drop_of_length-le numbers h in
      let e = line_long (sum + above / 2) in
      let w : at + 7 ≤ length out = omega (arith, v.room, v.same, v.within) in
      let l = length_splice out at (end_line (sum + above / 2)) (omega arith) in
      let t = take_splice out at (end_line (sum + above / 2)) (omega arith) in
      let z : at + length (end_line (sum + above / 2)) ≡ at + 7 = omega arith in
      rw (p, q) (omega arith, (rw z at t) ∙ (rw d at v.whole))

-- ---- all lines

-- every line that is not blank has a number
abbrev EachSome : List (List ℕ) → Type 0
EachSome [] = Unit {0}
EachSome ([] ∷ lines) = EachSome lines
EachSome ((b ∷ line) ∷ lines) = (0 < plate_in (b ∷ line)) × EachSome lines

list_some : (ls : List (List ℕ)) (a n : ℕ) → list_from a n ls ≡ true → EachSome ls
list_some [] a n e = tt
list_some ([] ∷ ls) a n e = list_some ls (suc a) 0 (blank_goes_on a n ls e).rest
list_some ((b ∷ l) ∷ ls) a n e =
    let g = plate_goes_on a n ls b l e in
    let m = plate_sizes (plate_in (b ∷ l)) g.sized in
    (omega arith, list_some ls a (suc n) g.rest)

-- the ends of lines by stacks, the first stack under plates of this sum, the lowest of them `above`
abbrev text_under : ℕ → ℕ → List (List (List ℕ)) → List ℕ
text_under sum above [] = []
text_under sum above (g ∷ gs) =
    ended (map (number 6) (running sum above (map plate_in g))) ++ further (map (map (number 6)) (map ends_of (map (map plate_in) gs)))

printed_under : (ls : List (List ℕ)) (sum above : ℕ) → EachSome ls
    → end_lines sum above (map plate_in ls) ≡ text_under sum above (by_stacks ls)
unfolding end_lines turn_lines end_line by_stacks is_blank at_top ended further running read_from
printed_under [] sum above each = sym (append-nil (number 6 (sum + above / 2) ++ (10 ∷ [])))
printed_under ([] ∷ ls) sum above each = go (by_stacks ls) (some_stack ls) (printed_under ls 0 0 each)
  where
    last : List ℕ
    last = number 6 (sum + above / 2) ++ (10 ∷ [])

    go : (G : List (List (List ℕ))) → 0 < length G → end_lines 0 0 (map plate_in ls) ≡ text_under 0 0 G
        → (last ++ (10 ∷ [])) ++ end_lines 0 0 (map plate_in ls) ≡ text_under sum above ([] ∷ G)
    go [] h e = absurd (omega arith)
    go (g ∷ gs) h e =
        rw (ends_running (map plate_in g))
        (append_assoc last (10 ∷ []) (end_lines 0 0 (map plate_in ls)) ∙ ap (λ (t : List ℕ). last ++ (10 ∷ t)) e)
printed_under ((b ∷ l) ∷ ls) sum above each =
    go (by_stacks ls) (some_stack ls) (printed_under ls (sum + plate_in (b ∷ l)) (plate_in (b ∷ l)) each.1)
  where
    p : ℕ
    p = plate_in (b ∷ l)

    go : (G : List (List (List ℕ))) → 0 < length G → end_lines (sum + p) p (map plate_in ls) ≡ text_under (sum + p) p G
        → end_lines sum above (p ∷ map plate_in ls) ≡ text_under sum above (at_top (b ∷ l) G)
    go [] h e = absurd (omega arith)
    go (g ∷ gs) h e =
        let s = each.0 in
        let z : eqb p 0 ≡ false = ne_eqb p 0 (λ q. omega arith) in
        let below : List ℕ = ended (map (number 6) (running (sum + p) p (map plate_in g))) in
        let after : List ℕ = further (map (map (number 6)) (map ends_of (map (map plate_in) gs))) in
        rw (z, e)
        (append_assoc (number 6 (sum + p / 2)) (10 ∷ []) (below ++ after) ∙ sym (append_assoc (number 6 (sum + p / 2)) (10 ∷ below) after))

under_none : (G : List (List (List ℕ))) → text_under 0 0 G ≡ list_text (map ends_of (map (map plate_in) G))
unfolding text_of
under_none [] = refl
under_none (g ∷ gs) = rw (ends_running (map plate_in g))

pub ends_printed : (text : List ℕ) → is_list text ≡ true → end_lines 0 0 (map plate_in (lines_of text)) ≡ list_text (map ends_of (stacks_in text))
ends_printed text e =
    printed_under (lines_of text) 0 0 (list_some (lines_of text) 1 0 (judged text ∙ e)) ∙ under_none (by_stacks (lines_of text))
