-- What holds of a tree that is built by inserts. The idea: a list of homes, one for each load, says in which bucket its
-- entry stands, and a bucket's entries are computed from the loads and their homes. Assumes nothing.
use Prim.Native.Nat.{ℕ, suc, ◌≤◌, ◌<◌}
use mathlib.Core.Path.{◌≡◌}
use mathlib.Core.Bool.{cond}
use mathlib.Core.Option.{Option, none, some}
use mathlib.Core.List.{List, [], ◌∷◌}
use lib.Dec.{eqb}
use lib.ListN.{length}
use Rattle.tree.specs.Rules.{Entry, Bucket, Kids, whole, split, at, next}

-- the buckets that the descent of the load l meets
pub data Way (t : List Bucket) (l : ℕ) : ℕ → Type 0 where
  start : Way t l 0
  down : {i c : ℕ} → Way t l i → next (at t i).kids l ≡ some c → Way t l c

-- bucket c is a child of bucket i and has the range (u, v]
pub record IsChild (t : List Bucket) (i u v c : ℕ) : Type 0 where
  pub above : i < c
  pub there : c < length t
  pub from : (at t c).x ≡ u
  pub to : (at t c).y ≡ v

abbrev pub Child : List Bucket → ℕ → ℕ → ℕ → Option ℕ → Type 0
Child t i u v none = Unit {0}
Child t i u v (some c) = IsChild t i u v c

pub record Halves (t : List Bucket) (i x y m : ℕ) (a c : Option ℕ) : Type 0 where
  pub over : x < m
  pub under : m ≤ y
  pub left : Child t i x m a
  pub right : Child t i m y c

abbrev pub Parts : List Bucket → ℕ → ℕ → ℕ → Kids → Type 0
Parts t i x y whole = Unit {0}
Parts t i x y (split m a c) = Halves t i x y m a c

pub record Good (t : List Bucket) (i : ℕ) (b : Bucket) : Type 0 where
  pub wide : b.x < b.y
  pub top : b.y ≤ 150001
  pub room : length b.entries ≤ 13
  pub parts : Parts t i b.x b.y b.kids

-- the load l has its home in bucket h
pub record Housed (t : List Bucket) (h l : ℕ) : Type 0 where
  pub there : h < length t
  pub way : Way t l h
  pub low : 0 < l
  pub high : l ≤ 150001

abbrev pub Both : (ℕ → ℕ → Type 0) → List ℕ → List ℕ → Type 0
Both P [] [] = Unit {0}
Both P [] (l ∷ ls) = ⊥
Both P (h ∷ hs) [] = ⊥
Both P (h ∷ hs) (l ∷ ls) = P h l × Both P hs ls

-- the entries of the loads whose home is bucket i, with their positions from p
abbrev pub home : ℕ → ℕ → List ℕ → List ℕ → List Entry
home i p [] ls = []
home i p (h ∷ hs) [] = []
home i p (h ∷ hs) (l ∷ ls) = cond (eqb h i) (record { load = l; position = p } ∷ home i (suc p) hs ls) (home i (suc p) hs ls)

-- hs names the home of each load of ls: bucket i holds just the loads whose home is i, in order of position
pub record Inv (ls hs : List ℕ) (t : List Bucket) : Type 0 where
  pub begun : length t ≤ length ls
  pub few : length t ≤ 36
  pub low : (at t 0).x ≡ 0
  pub high : (at t 0).y ≡ 150001
  pub good : (i : ℕ) → Good t i (at t i)
  pub housed : Both (Housed t) hs ls
  pub held : (i : ℕ) → (at t i).entries ≡ home i 0 hs ls
