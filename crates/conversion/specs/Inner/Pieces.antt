-- What the pieces of a conversion give, for any chips and any state; a reader need not believe them. Assumes nothing.
use Rattle.std.specs.Prelude.{◌≡◌, true, false, not, ◌||◌, List, [], ℕ, length}
use Rattle.form.specs.declared.Form.{Form}
use Rattle.form.specs.declared.Form.TheVariants.{Old, New}
use Rattle.bounds.specs.Grounds.{ground, nand_bad, nor_bad}
use Rattle.store.specs.declared.State.{State}
use Rattle.store.specs.Bounds.{within_bounds}
use Rattle.store.specs.World.{World, world}
use Rattle.carry.specs.declared.Serials.{Serials}
use Rattle.carry.specs.Carried.{other}
use Rattle.retained.specs.Retained.{any_closed, is_form, is_damaged}
use Rattle.conversion.specs.Outcome.{cannot_go_back}

-- the serials that a state retains
abbrev pub serials_of : State → ℕ → Serials
serials_of s slots = record { slots = slots; oldest = s.oldest; current = s.current }

-- grounds 1 and 2, by the lengths of both stores
unfoldable pub lengths_ground : ℕ → ℕ → ℕ → ℕ → ℕ → ℕ
lengths_ground nand_length nor_length slots toNand toNor =
    ground 1 (nand_bad nand_length slots || nand_bad toNand slots) (ground 2 (nor_bad nor_length || nor_bad toNor) 0)

-- the first store of a conversion into f
abbrev pub store_of : Form → State → ℕ → List ℕ → List ℕ → World
store_of f s live nand nor = record { form = other f; nand = nand; nor = nor; state = s; live = live }

-- grounds 1, 2, 3, 13 and 10
unfoldable pub early_grounds : Form → State → ℕ → List ℕ → ℕ → ℕ → ℕ → ℕ → ℕ
early_grounds f s live nand nor_length slots toNand toNor =
    ground 1 (nand_bad (length nand) slots || nand_bad toNand slots)
    (ground 2 (nor_bad nor_length || nor_bad toNor)
    (ground 3 (not (within_bounds (other f) s live slots))
    (ground 13 (any_closed (is_form f) (store_of f s live nand []) slots)
    (ground 10 (any_closed (is_damaged (other f) slots s.current) (store_of f s live nand []) slots)
    0))))

-- and 14, going back
unfoldable pub back_grounds : State → List ℕ → ℕ → ℕ → ℕ → ℕ → ℕ
back_grounds s nand nor_length slots toNand toNor =
    ground 1 (nand_bad (length nand) slots || nand_bad toNand slots)
    (ground 2 (nor_bad nor_length || nor_bad toNor)
    (ground 3 (not (within_bounds New s 0 slots))
    (ground 13 (any_closed (is_form Old) (world nand [] s) slots)
    (ground 10 (any_closed (is_damaged New slots s.current) (world nand [] s) slots)
    (ground 14 (cannot_go_back (world nand [] s) slots)
    0)))))

-- none of 1, 3 and 10 holds for the first store
pub record NoGround (f : Form) (s : State) (live : ℕ) (nand : List ℕ) (slots : ℕ) : Type 0 where
  pub chips : nand_bad (length nand) slots ≡ false
  pub bounds : within_bounds (other f) s live slots ≡ true
  pub whole : any_closed (is_damaged (other f) slots s.current) (store_of f s live nand []) slots ≡ false
