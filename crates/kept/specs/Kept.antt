-- What a call leaves in an area that its caller lends: a refusal leaves it as it was. Assumes nothing.
use Rattle.std.specs.Prelude.{cond, List, ℕ, eqb}

-- what stands in an area after a call with this number: something new only where it is accepted
abbrev pub kept : ℕ → List ℕ → List ℕ → List ℕ
kept number new old = cond (eqb number 0) new old
