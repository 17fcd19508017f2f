-- Each key is added behind those before it.
use Rattle.std.proofs.Common.{List, subst, arith}
use Rattle.std.proofs.lemmas.List.{take_all}
use Rattle.cells.specs.Rows.{CellOf}
use Rattle.group_values.specs.Places.{Indexed}
use Rattle.group_values.specs.PlacesLemmas.{indexed_free, indexed_more}
use Rattle.group_values.proofs.places.rebuild.Goals as goal

pub add_place-requires : goal.add_place-requires
add_place-requires c = (
  indexed_free c.args.keys.now c.loop-place.place c.index-keys-place.result c.loop-place.places c.requires.0 c.loop-place-test.true c.index-keys-place.is c.loop-place.invariant.0,
  omega arith,
)

pub loop-place-preserved : goal.loop-place-preserved
loop-place-preserved c = (
  indexed_more c.args.keys.now c.loop-place.place c.index-keys-place.result c.loop-place.places c.requires.0 c.loop-place-test.true c.index-keys-place.is c.loop-place.invariant.0
      c.add_place.new.places c.add_place.ensures.updates,
  omega arith,
  omega arith,
)

pub returns-clause-indexed : goal.returns-clause-indexed
returns-clause-indexed c =
    subst (λ (ks : List (List CellOf)). Indexed ks c.loop-place.places) (take_all c.loop-place.place c.args.keys.now c.loop-place-test.false) c.loop-place.invariant.0
