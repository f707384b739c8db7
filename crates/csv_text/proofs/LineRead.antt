-- The line from a place on, by the three fields that are read there: a record where all three are, none where one is not. The idea: the
-- grammar's record would have been read, field after field. Assumes nothing.
use Rattle.std.specs.Prelude.{Option as Maybe, Some, None, MatchOption}
use mathlib.Core.Path.{◌≡◌, refl, sym, ap, ◌∙◌}
use mathlib.Core.Bool.{true, false, false≢true}
use mathlib.Core.Option.{Option, none, some}
use mathlib.Core.List.{List, [], ◌∷◌, ◌++◌, append_assoc}
use Prim.Native.Nat.{ℕ, ◌≤◌, ◌<◌}
use native.Mathlib.Decide.{dec_lt}
use native.Mathlib.Omega.{arith}
use borrow.Author.Tests.{eqb-true}
use lib.Dec.{eqb}
use lib.ListN.{get_or, drop}
use Rattle.codec.proofs.Truth.{and_parts}
use Rattle.lift_text.specs.Text.{Told, comma}
use Rattle.csv_text.specs.declared.Field.{Field}
use Rattle.csv_text.specs.Grammar.{lines_of, member_most}
use Rattle.csv_text.specs.Inner.Reading.{first_record, LineRead}
use Rattle.csv_text.specs.Inner.Descent.{ends, Stops, Front, FieldRead, NoField, CommaPassed, NoComma, EndPassed}
use Rattle.csv_text.proofs.Records.{load_said, line, RecordFirst, record_first, record_in_lem, line_first}

-- ---- what comes after a field

comma_stops : (bytes : List ℕ) → Stops (comma ∷ bytes)
comma_stops bytes = record { no_digit = refl; no_quote = refl }

end_stops : (bytes : List ℕ) → ends bytes ≡ true → Stops bytes
unfolding ends
end_stops [] e = record { no_digit = refl; no_quote = refl }
end_stops (b ∷ bytes) e =
    let c = eqb-true b 13 (and_parts (eqb b 13) (eqb (get_or bytes 0 0) 10) e).0 in
    record { no_digit = rw c; no_quote = rw c }

line_before : (t k m bytes : List ℕ) → line t k m ++ bytes ≡ t ++ (comma ∷ (k ++ (comma ∷ (m ++ bytes))))
line_before t k m bytes = simp append_assoc

behind_comma : {a b : List ℕ} → comma ∷ a ≡ comma ∷ b → a ≡ b
behind_comma e = ap (drop 1) e

-- ---- field after field

module _ (text : List ℕ) (at : ℕ) where
  -- no record is read where the grammar has none
  none_there : (RecordFirst (drop at text) → ⊥) → first_record (lines_of (drop at text)) ≡ none
  none_there f = go (first_record (lines_of (drop at text))) refl
    where
      go : (o : Option Told) → first_record (lines_of (drop at text)) ≡ o → o ≡ none
      go none q = refl
      go (some r) q = absurd (f (record_first (drop at text) r q))

  -- what the grammar's record has from its first, second and third field on
  first_front : (r : RecordFirst (drop at text)) → Front false (drop at text) false r.time (comma ∷ (r.k ++ (comma ∷ (r.m ++ r.behind))))
  first_front r = record { field = r.t; form = r.first; whole = r.whole ∙ line_before r.t r.k r.m r.behind }

  pub no_time : NoField false text at → first_record (lines_of (drop at text)) ≡ none
  no_time n = none_there (λ r. n.never _ _ _ (first_front r) (comma_stops _))

  module _ {t : Field} (rt : FieldRead false text at t) where
    first_comma : (r : RecordFirst (drop at text)) → drop t.end text ≡ comma ∷ (r.k ++ (comma ∷ (r.m ++ r.behind)))
    first_comma r = (rt.only _ _ _ (first_front r) (comma_stops _)).1.1

    pub no_first_comma : NoComma text t.end → first_record (lines_of (drop at text)) ≡ none
    no_first_comma n = none_there (λ r. n.never _ (first_comma r))

    module _ {second : ℕ} (ct : CommaPassed text t.end second) where
      second_front : (r : RecordFirst (drop at text)) → Front true (drop second text) r.minus r.load (comma ∷ (r.m ++ r.behind))
      second_front r = record { field = r.k; form = r.second; whole = behind_comma (sym ct.there ∙ first_comma r) }

      pub no_load : NoField true text second → first_record (lines_of (drop at text)) ≡ none
      no_load n = none_there (λ r. n.never _ _ _ (second_front r) (comma_stops _))

      module _ {k : Field} (rk : FieldRead true text second k) where
        second_comma : (r : RecordFirst (drop at text)) → drop k.end text ≡ comma ∷ (r.m ++ r.behind)
        second_comma r = (rk.only _ _ _ (second_front r) (comma_stops _)).1.1

        pub no_second_comma : NoComma text k.end → first_record (lines_of (drop at text)) ≡ none
        no_second_comma n = none_there (λ r. n.never _ (second_comma r))

        module _ {third : ℕ} (ck : CommaPassed text k.end third) where
          third_front : (r : RecordFirst (drop at text)) → Front false (drop third text) false r.member r.behind
          third_front r = record { field = r.m; form = r.third; whole = behind_comma (sym ck.there ∙ second_comma r) }

          pub no_member : NoField false text third → first_record (lines_of (drop at text)) ≡ none
          no_member n = none_there (λ r. n.never _ _ _ (third_front r) (end_stops _ r.end))

          module _ {m : Field} (rm : FieldRead false text third m) where
            third_read : (r : RecordFirst (drop at text)) → (m.value ≡ r.member) × (drop m.end text ≡ r.behind)
            third_read r = (rm.only _ _ _ (third_front r) (end_stops _ r.end)).1

            pub no_end : ends (drop m.end text) ≡ false → first_record (lines_of (drop at text)) ≡ none
            no_end e = none_there (λ r. false≢true (sym e ∙ ap ends (third_read r).1 ∙ r.end))

            pub too_large : member_most < m.value → first_record (lines_of (drop at text)) ≡ none
            too_large h = none_there (λ r. let v = third_read r in let s = r.small in omega arith)

            pub line_read : (next : ℕ) → EndPassed text m.end next → m.value ≤ member_most
                → LineRead text at (record { time = t.value; load = load_said k.minus k.value; member = m.value; next = next })
            line_read next p small =
                let one = rt.good.field in
                let two = rk.good.field in
                let three = rm.good.field in
                let bytes : drop at text ≡ line one two three ++ drop m.end text =
                rt.good.whole ∙ ap (λ (l : List ℕ). one ++ l) (ct.there ∙ ap (λ (l : List ℕ). comma ∷ l) (rk.good.whole
                ∙ ap (λ (l : List ℕ). two ++ l) (ck.there ∙ ap (λ (l : List ℕ). comma ∷ l) rm.good.whole)))
                ∙ sym (line_before one two three (drop m.end text)) in
                let cut = ap lines_of bytes ∙ line_first rt.good.form rk.good.form rm.good.form (drop m.end text) p.there in
                record {
                  says = rw cut (record_in_lem rt.good.form rk.good.form rm.good.form small);
                  on = rw cut (ap lines_of (sym p.behind));
                  further = omega (arith, rt.further, ct.further, rk.further, ck.further, rm.further, p.from);
                  inside = p.inside;
                }

-- ---- the line by its three fields, each read or not

module _ (text : List ℕ) (at : ℕ) where
  -- no time, or no comma behind it
  pub bad_first : (o : Maybe Field) → MatchOption o (NoField false text at) (λ t. FieldRead false text at t × NoComma text t.end)
      → first_record (lines_of (drop at text)) ≡ none
  bad_first None n = no_time text at n
  bad_first (Some t) r = no_first_comma text at r.0 r.1

  module _ {t : Field} (rt : FieldRead false text at t) {second : ℕ} (ct : CommaPassed text t.end second) where
    -- no load, or no comma behind it
    pub bad_second : (o : Maybe Field) → MatchOption o (NoField true text second) (λ k. FieldRead true text second k × NoComma text k.end)
        → first_record (lines_of (drop at text)) ≡ none
    bad_second None n = no_load text at rt ct n
    bad_second (Some k) r = no_second_comma text at rt ct r.0 r.1

    module _ {k : Field} (rk : FieldRead true text second k) {third : ℕ} (ck : CommaPassed text k.end third) where
      -- no member, one that is too large, or no end behind it
      pub bad_third : (o : Maybe Field) → MatchOption o (NoField false text third)
          (λ m. FieldRead false text third m × (m.value ≤ member_most → ends (drop m.end text) ≡ false))
          → first_record (lines_of (drop at text)) ≡ none
      bad_third None n = no_member text at rt ct rk ck n
      bad_third (Some m) r = go (dec_lt member_most m.value)
        where
          go : Dec (member_most < m.value) → first_record (lines_of (drop at text)) ≡ none
          go (yes h) = too_large text at rt ct rk ck r.0 h
          go (no f) = no_end text at rt ct rk ck r.0 (r.1 (omega arith))

      pub good_line : {m : Field} → FieldRead false text third m → m.value ≤ member_most → (next : ℕ) → EndPassed text m.end next
          → LineRead text at (record { time = t.value; load = load_said k.minus k.value; member = m.value; next = next })
      good_line rm small next p = line_read text at rt ct rk ck rm next p small
