-- Certain and possible lifts of a list: what a search over the widened ends wants of it, and which of those rows are certain. Assumes nothing.
use mathlib.Core.Path.{◌≡◌, refl, sym, ap, ◌∙◌}
use mathlib.Core.Bool.{Bool, true, false, ◌&&◌}
use mathlib.Core.List.{List, [], ◌∷◌, map}
use Prim.Native.Nat.{ℕ}
use lib.IntN.{ℤ}
use Rattle.codec.specs.Lists.{chosen}
use Rattle.codec.proofs.Lists.{chosen_map, chosen_twice}
use Rattle.codec.proofs.Truth.{and_assoc}
use Rattle.lift.specs.Limits.{load_of}
use Rattle.lift.specs.Record.{code_at}
use Rattle.lift.proofs.Codes.{within_limits}
use Rattle.paper_log.specs.Log.{Lift, wanted, among, row_of}
use Rattle.refinement.proofs.Good.{GoodLift, GoodLifts}
use Rattle.refinement.proofs.TallyFound.{row_code}
use Rattle.tolerance.specs.Tolerance.{is_certain, is_possible, low_end, high_end, certain_rows}
use Rattle.tolerance.proofs.ByEnds.{possible_ends}
use Rattle.tolerance.proofs.Theorems.{certain_possible}
use Rattle.tolerant_logs.specs.TolerantLog.{is_timely}

-- two tests that agree on lifts that were accepted
chosen_good : (f g : Lift → Bool) → ((l : Lift) → GoodLift l → f l ≡ g l) → (ls : List Lift) → GoodLifts ls → chosen f ls ≡ chosen g ls
unfolding chosen
chosen_good f g h [] good = refl
chosen_good f g h (l ∷ ls) good = rw (h l good.0, chosen_good f g h ls good.1)

-- ---- the lifts of a search

module _ (t1 t2 : ℕ) (k1 k2 : ℤ) (d : ℕ) where
  abbrev maybe : Lift → Bool
  maybe l = is_timely t1 t2 l && is_possible k1 k2 d l.load

  abbrev surely : Lift → Bool
  surely l = is_timely t1 t2 l && is_certain k1 k2 d l.load

  among_chosen : (ls : List Lift) → among t1 t2 (low_end k1 d) (high_end k2 d) ls ≡ chosen (wanted t1 t2 (low_end k1 d) (high_end k2 d)) ls
  unfolding among chosen
  among_chosen [] = refl
  among_chosen (l ∷ ls) = rw (among_chosen ls)

  -- wanted over the widened ends are the possible ones
  pub among_possible : (ls : List Lift) → GoodLifts ls
      → among t1 t2 (low_end k1 d) (high_end k2 d) ls ≡ chosen (λ l. is_timely t1 t2 l && is_possible k1 k2 d l.load) ls
  among_possible ls good =
      among_chosen ls
      ∙ chosen_good (wanted t1 t2 (low_end k1 d) (high_end k2 d)) maybe (λ l g. ap (λ t. is_timely t1 t2 l && t) (possible_ends k1 k2 d l.load g.load))
      ls good

  -- a certain lift is among them
  sure_of : (l : Lift) → (maybe l && is_certain k1 k2 d l.load) ≡ surely l
  sure_of l = and_assoc (is_timely t1 t2 l) (is_possible k1 k2 d l.load) (is_certain k1 k2 d l.load) ∙ ap (λ t. is_timely t1 t2 l && t) both
    where
      go : (c p : Bool) → is_certain k1 k2 d l.load ≡ c → is_possible k1 k2 d l.load ≡ p → (p && c) ≡ c
      go true p e f = ap (λ t. t && true) (sym f ∙ certain_possible k1 k2 d l.load e)
      go false true e f = refl
      go false false e f = refl

      both : (is_possible k1 k2 d l.load && is_certain k1 k2 d l.load) ≡ is_certain k1 k2 d l.load
      both = go (is_certain k1 k2 d l.load) (is_possible k1 k2 d l.load) refl refl

  load_read : (l : Lift) → GoodLift l → is_certain k1 k2 d (load_of (code_at (row_of l) 0)) ≡ is_certain k1 k2 d l.load
  load_read l g = ap (is_certain k1 k2 d) (ap load_of (row_code l g) ∙ (within_limits l.load g.load).load)

  pub certain_among : (ls : List Lift) → GoodLifts ls
      → certain_rows k1 k2 d (map row_of (chosen (λ l. is_timely t1 t2 l && is_possible k1 k2 d l.load) ls))
      ≡ map row_of (chosen (λ l. is_timely t1 t2 l && is_certain k1 k2 d l.load) ls)
  unfolding certain_rows
  certain_among ls good =
      chosen_map (λ r. is_certain k1 k2 d (load_of (code_at r 0))) row_of (chosen maybe ls)
      ∙ ap (map row_of) (chosen_twice (λ l. is_certain k1 k2 d (load_of (code_at (row_of l) 0))) maybe ls
      ∙ chosen_good (λ l. maybe l && is_certain k1 k2 d (load_of (code_at (row_of l) 0))) surely
      (λ l g. ap (λ t. maybe l && t) (load_read l g) ∙ sure_of l) ls good)
