-- Ground 3: the bounds of the state's numbers (document 01, "State", last paragraph). Assumes nothing.
use Rattle.std.specs.Prelude.{Bool, true, not, ◌&&◌, ◌||◌, List, [], ◌∷◌, ℕ, ◌+◌, ◌-◌, eqb, leb, ltb, ℤ}
use Rattle.std.specs.Int.Signed.{le_z}
use Rattle.tree.specs.Rules.{buckets_most}
use Rattle.lift.specs.Limits.{load_ok, time_limit}
use Rattle.lift.specs.Rows.{lifts_most}
use Rattle.form.specs.declared.Form.{Form}
use Rattle.form.specs.declared.Form.TheVariants.{Old, New}

-- "exactly when"
abbrev pub exactly : Bool → Bool → Bool
exactly a b = (a && b) || (not a && not b)

abbrev pub last_serial : ℕ
last_serial = 999999999

-- "serials 1 to 999,999,999; oldest ≤ open and open − oldest ≤ S, below S when count is above 0"
unfoldable pub serials_ok : ℕ → ℕ → ℕ → ℕ → Bool
serials_ok oldest current count slots =
    (leb 1 oldest && (leb oldest current && leb current last_serial))
    && (leb (current - oldest) slots && (eqb count 0 || ltb (current - oldest) slots))

-- "count 0–320; buckets 0–36, 0 exactly when count is 0; count 0 if open is 999,999,999"
unfoldable pub counts_ok : ℕ → ℕ → ℕ → Bool
counts_ok current count buckets =
    (leb count lifts_most && leb buckets buckets_most) && (exactly (eqb buckets 0) (eqb count 0) && (not (eqb current last_serial) || eqb count 0))

-- form 0: "next, oldest live and start time at most 1,000,000,000,000,000; next 0 exactly when open is 1 and count 0;
-- with count above 0, start below next". Form 1: "a start may equal it; next is 0 if open is 1 and count 0, and at most
-- 999,999,999,999,999"
unfoldable pub times_ok : Form → ℕ → ℕ → ℕ → ℕ → ℕ → Bool
times_ok Old current count next live start =
    (leb next (time_limit + 1) && (leb live (time_limit + 1) && leb start (time_limit + 1)))
    && (exactly (eqb next 0) (eqb current 1 && eqb count 0) && (eqb count 0 || ltb start next))
times_ok New current count next live start =
    (leb next time_limit && leb start (time_limit + 1))
    && ((not (eqb current 1 && eqb count 0) || eqb next 0) && (eqb count 0 || leb start next))

-- with count above 0, "low not above high; loads within their limits"
unfoldable pub span_ok : ℕ → ℤ → ℤ → Bool
span_ok count low high = (load_ok low && load_ok high) && (eqb count 0 || le_z low high)

unfoldable pub loads_ok : List ℤ → Bool
loads_ok [] = true
loads_ok (l ∷ ls) = load_ok l && loads_ok ls
