-- What the code's plan says: for each case the paper's values (document 01, "Tree"). Assumes nothing.
use Rattle.std.specs.Prelude.{ℕ, ◌<◌}
use Rattle.tree.specs.Plan as Tree
use Rattle.tree.specs.Plan.{damaged, no_room, new_root, into_bucket, new_child, split_bucket}
use Rattle.tree.specs.Bytes.{left_at, right_at}
use Rattle.grow.specs.declared.Side.{Side}
use Rattle.grow.specs.declared.Side.TheVariants.{Left, Right}
use Rattle.grow.specs.declared.Plan.{Plan}
use Rattle.grow.specs.declared.Plan.TheVariants.{Damage, Full, Root, Entry, Child, Split}

-- the byte of a child's number
abbrev pub byte_of : Side → ℕ
byte_of Left = left_at
byte_of Right = right_at

abbrev pub meaning : Plan → Tree.Plan
meaning Damage = damaged
meaning Full = no_room
meaning Root = new_root
meaning (Entry b i) = into_bucket b.0 i
meaning (Child b side x y) = new_child b.0 (byte_of side) x y
meaning (Split b m side x y) = split_bucket b.0 m (byte_of side) x y

-- the numbers of a plan for a tree of so many buckets: buckets are below 36, an entry has a place
abbrev pub Fitting : ℕ → Plan → Type 0
Fitting buckets Damage = Unit {0}
Fitting buckets Full = Unit {0}
Fitting buckets Root = Unit {0}
Fitting buckets (Entry b i) = (b.0 < buckets) × (i < 13)
Fitting buckets (Child b side x y) = (b.0 < buckets) × (buckets < 36)
Fitting buckets (Split b m side x y) = (b.0 < buckets) × (buckets < 36)
