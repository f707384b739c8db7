-- Our own worked examples, for what the papers' theorems cannot guard: rules, byte layouts and limits that definition and code share. Every
-- row computes to the figure worked out by hand. Assumes nothing.
use mathlib.Core.Path.{refl}
use lib.Count.{count_trailing_zeros}
use Rattle.codec.specs.Area.{part, splice, repeated, all_ones}
use Rattle.codec.specs.Number.{le, bytes}
use Rattle.flash.specs.Chip.{slot_of}
use Rattle.lift.specs.Limits.{stored}
use Rattle.lift.specs.Record.{record_bytes}
use Rattle.lift.specs.Rows.{time_in, code_in, record_in}
use Rattle.split.specs.Split.{overlap, rule, bring, mid, sum, weighed, slope, fitted, low_from, high_from, low, high, midpoint}
use Rattle.bitset.specs.Set.{elem, distinct}
use Rattle.bloom.specs.Bloom.{multiplier, bloom_bit, noted, noted_all, empty_section, section_of, some_set}
use Rattle.bloom.specs.Pages.{each, fragment_length, sections_from, fragment, fragments, zero_filled, bloom_page}
use Rattle.bloom.specs.Tried.{tried_of, pages_tried}
use Rattle.skiplist.specs.Skip.{level_of, node_of, heads_after}
use Rattle.skiplist.specs.PointerBytes.{pointer_bytes, pointers_bytes, pointer_at, pointers_at}
use Rattle.tree.specs.Place.{bucket_start}
use Rattle.tree.specs.Rules.{descend, allocate, put, last_loads, insert, insert_more, tree_of, buckets_of}
use Rattle.tree.specs.Bytes as TreeBytes
use Rattle.tree.specs.Bytes.{entry_bytes, bucket_bytes, tree_bytes}
use Rattle.tree.specs.Reading.{entries_from, node_in, kids_of, positions_good, node_good}
use Rattle.tree.specs.Search.{hits}
use Rattle.tree.specs.Sweep.{records_good, visited_from, gathered, sweep_on}
use Rattle.tree.specs.Plan.{plan_from, plan_on}
use Rattle.tree.specs.Writes.{writes_of, all_clear, all_written}
use Rattle.bounds.specs.Bounds.{serials_ok, counts_ok, times_ok, span_ok, loads_ok}
use Rattle.bounds.specs.Grounds.{format_ground, lift_ground, query_ground}
use Rattle.header.specs.Header.{count_bytes, span_bytes, header_page}
use Rattle.header.specs.Header.{counts_good, span_good, pointer_good, pointers_good, header_good, header_in}
use Rattle.segment.specs.Pages.{page_due, pages_erased, tree_page}
use Rattle.walk.specs.Seek.{hop_at, hops, skip_walk, moves_of}
use Rattle.loads.specs.Signed.{unsigned, side_by_side, load_bytes}
use Rattle.state_bytes.specs.StateBytes.{bytes_in, state_bytes, old_state_bytes}
use Rattle.store.specs.Bounds.{heads_ok, within_bounds}
use Rattle.store.specs.World.{closing}
use Rattle.store.specs.Calls.{nor_clear, close_ground, drop_ground, room_world, append_damage, append_unerased, append_ground}
use Rattle.worked_examples.specs.Figures.{Agrees}
use Rattle.worked_examples.specs.Laid.{laid_entries}
use Rattle.worked_examples.specs.Midpoints.{midpoints, predictions}
use Rattle.worked_examples.specs.Buckets.{trees, plans, writings}
use Rattle.worked_examples.specs.Bytes.{places, all_shown, layouts, ramp, bloom, pointers_shown, headers}
use Rattle.worked_examples.specs.StateAreas.{state_areas}
use Rattle.worked_examples.specs.Bounds.{serial_bounds, time_bounds, load_bounds, grounds, segments}
use Rattle.worked_examples.specs.Refusals.{refusals}
use Rattle.worked_examples.specs.Damage.{header_damage, serial_damage, bucket_damage, record_damage, nor_damage}
use Rattle.worked_examples.specs.PagesRead.{heads_to, slot_with, eight_closed, header_pages, set_all, bloom_pages, tree_pages}

midpoints_right : Agrees midpoints
unfolding midpoints mid overlap rule bring
midpoints_right = refl

predictions_right : Agrees predictions
unfolding predictions low high low_from high_from fitted slope weighed sum midpoint stored mid overlap rule bring
predictions_right = refl

trees_right : Agrees trees
unfolding trees bucket_start
    buckets_of tree_of insert_more insert descend put allocate last_loads
    stored midpoint mid overlap rule bring low high low_from high_from fitted slope weighed sum
trees_right = refl

plans_right : Agrees plans
unfolding plans bucket_start laid_entries
    plan_on plan_from node_in kids_of entries_from node_good positions_good part le
    stored midpoint mid overlap rule bring low high low_from high_from fitted slope weighed sum
plans_right = refl

writings_right : Agrees writings
unfolding writings bucket_start laid_entries all_written writes_of splice bytes
writings_right = refl

places_right : Agrees places
unfolding places bucket_start stored slot_of fragment_length level_of count_trailing_zeros
places_right = refl

layouts_right : Agrees layouts
unfolding layouts bucket_start all_shown laid_entries
    record_bytes time_in code_in record_in bytes stored part splice le repeated TreeBytes.places entry_bytes bucket_bytes tree_bytes node_in entries_from tree_page
layouts_right = refl

bloom_right : Agrees bloom
unfolding bloom ramp stored
    multiplier bloom_bit noted noted_all empty_section section_of repeated part each fragment_length sections_from fragment fragments zero_filled bloom_page
bloom_right = refl

headers_right : Agrees headers
unfolding headers pointers_shown pointers_at pointer_at part le header_in
    bytes repeated pointer_bytes pointers_bytes node_of heads_after level_of count_trailing_zeros closing stored count_bytes span_bytes header_page fragment_length
headers_right = refl

states_right : Agrees state_areas
unfolding state_areas state_bytes old_state_bytes bytes_in bytes unsigned side_by_side load_bytes pointer_bytes pointers_bytes
states_right = refl

serials_right : Agrees serial_bounds
unfolding serial_bounds within_bounds serials_ok counts_ok times_ok span_ok loads_ok heads_ok
serials_right = refl

times_right : Agrees time_bounds
unfolding time_bounds within_bounds serials_ok counts_ok times_ok span_ok loads_ok heads_ok
times_right = refl

loads_right : Agrees load_bounds
unfolding load_bounds within_bounds serials_ok counts_ok times_ok span_ok loads_ok heads_ok
loads_right = refl

grounds_right : Agrees grounds
unfolding grounds format_ground lift_ground query_ground
grounds_right = refl

segments_right : Agrees segments
unfolding segments bucket_start
    page_due buckets_of tree_of insert_more insert descend put allocate last_loads
    midpoint stored mid overlap rule bring low high low_from high_from fitted slope weighed sum
segments_right = refl

refusals_right : Agrees refusals
unfolding refusals bucket_start laid_entries
    close_ground drop_ground append_ground lift_ground within_bounds serials_ok counts_ok times_ok span_ok loads_ok heads_ok
    slot_of pages_erased page_due all_ones part splice le plan_on plan_from node_in entries_from kids_of node_good positions_good
    room_world append_damage append_unerased nor_clear all_clear writes_of stored
refusals_right = refl

headers_judged : Agrees header_damage
unfolding header_damage
    splice part le header_good counts_good span_good pointers_at pointer_at pointers_good pointer_good fragment_length
headers_judged = refl

serials_judged : Agrees serial_damage
unfolding serial_damage
    skip_walk hops hop_at header_in splice part le header_good counts_good span_good pointers_at pointer_at pointers_good pointer_good fragment_length
serials_judged = refl

buckets_judged : Agrees bucket_damage
unfolding bucket_damage bucket_start splice part le node_in entries_from kids_of node_good positions_good
buckets_judged = refl

records_judged : Agrees record_damage
unfolding record_damage bucket_start splice part le node_in entries_from kids_of node_good positions_good records_good sweep_on gathered visited_from hits code_in
records_judged = refl

nor_judged : Agrees nor_damage
unfolding nor_damage bucket_start splice part all_ones nor_clear all_clear writes_of
nor_judged = refl

header_pages_right : Agrees header_pages
unfolding header_pages heads_to slot_with eight_closed
    moves_of skip_walk hops hop_at level_of count_trailing_zeros node_of heads_after header_page count_bytes span_bytes pointers_bytes pointer_bytes bytes repeated
    header_in part le header_good counts_good span_good pointers_at pointer_at pointers_good pointer_good fragment_length
header_pages_right = refl

bloom_pages_right : Agrees bloom_pages
unfolding bloom_pages set_all pages_tried tried_of multiplier bloom_bit some_set fragment_length distinct elem
bloom_pages_right = refl

tree_pages_right : Agrees tree_pages
unfolding tree_pages distinct elem
tree_pages_right = refl

-- split and tree, bytes and places, bounds and grounds, damage
pub our_examples :
    Agrees midpoints × Agrees predictions × Agrees trees × Agrees plans × Agrees writings
    × Agrees places × Agrees layouts × Agrees bloom × Agrees headers × Agrees state_areas
    × Agrees serial_bounds × Agrees time_bounds × Agrees load_bounds × Agrees grounds × Agrees segments × Agrees refusals
    × Agrees header_damage × Agrees serial_damage × Agrees bucket_damage × Agrees record_damage × Agrees nor_damage
    × Agrees header_pages × Agrees bloom_pages × Agrees tree_pages
our_examples = (
  midpoints_right,
  predictions_right,
  trees_right,
  plans_right,
  writings_right,
  places_right,
  layouts_right,
  bloom_right,
  headers_right,
  states_right,
  serials_right,
  times_right,
  loads_right,
  grounds_right,
  segments_right,
  refusals_right,
  headers_judged,
  serials_judged,
  buckets_judged,
  records_judged,
  nor_judged,
  header_pages_right,
  bloom_pages_right,
  tree_pages_right,
)
