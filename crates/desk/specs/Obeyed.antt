-- What a line, and a run of bytes, does to the chips and the state (document 01, "Program"), with S = 2: "A appends (notes 0),
-- C closes, G drops, Q searches .., T tallies"; P prints the tally's page (document 02, W-201). Assumes nothing.
use Rattle.std.specs.Prelude.{cond, List, [], ◌∷◌, ◌++◌, ℕ, eqb, ltb, length, take, replicate}
use Rattle.lines.specs.declared.Line.{Line}
use Rattle.lines.specs.declared.Line.TheVariants.{Append, Close, Drop, Search, Tally, Page, Other}
use Rattle.lines.specs.Forms.{line_of, line_feed}
use Rattle.store.specs.World.{World, world}
use Rattle.store.specs.Calls.{append_outcome, close_outcome, drop_outcome}
use Rattle.desk.specs.declared.Reader.{Reader}

unfoldable pub obeyed : World → Line → World
obeyed w (Append t k) = (append_outcome w 2 t k (replicate 20 0)).world
obeyed w Close = (close_outcome w 2).world
obeyed w Drop = (drop_outcome w 2).world
obeyed w (Search t1 t2 k1 k2) = w
obeyed w (Tally t1 t2) = w
obeyed w (Page t1 t2) = w
obeyed w Other = w

-- chips and state, and the bytes since the last line feed
pub record Desk : Type 0 where
  pub world : World
  pub line : List ℕ

abbrev pub desk : List ℕ → List ℕ → Reader → Desk
desk nand nor s = record { world = world nand nor s.state; line = take s.len s.line }

-- a byte more of a line: 48 are kept, which no form has
unfoldable pub kept : List ℕ → ℕ → List ℕ
kept l b = cond (ltb (length l) 48) (l ++ (b ∷ [])) l

-- a byte of the input: a line feed ends the line
unfoldable pub typed : Desk → ℕ → Desk
typed d b =
    cond (eqb b line_feed)
    (record { world = obeyed d.world (line_of d.line); line = [] })
    (record { world = d.world; line = kept d.line b })

unfoldable pub typed_all : Desk → List ℕ → Desk
typed_all d [] = d
typed_all d (b ∷ bs) = typed_all (typed d b) bs
