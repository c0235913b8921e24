use Rattle.std.proofs.Common.{subst}
use Rattle.std.specs.Prelude.{ℤ, List, OnOk, FitsSigned}
use Rattle.std.specs.Int.{w32}
use Rattle.std.proofs.lemmas.List.{map-id}
use Rattle.flex_wire.specs.Spelling.{int32}
use Rattle.flex_wire.specs.Composed.{array, FitsArray}
use Rattle.flex_wire.specs.Writing.{AppendsUpTo}
use Rattle.kip_msgs.proofs.writing.arrays.put_indexes.Goals as goal

pub returns-clause-appends : goal.returns-clause-appends
returns-clause-appends c = subst (λ (xs : List ℤ). AppendsUpTo c.put_array.result c.args.out.now c.put_array.new.out (array int32 xs)) (map-id c.args.indexes.now) c.put_array.ensures.appends

pub returns-clause-fits : goal.returns-clause-fits
returns-clause-fits c = subst (λ (xs : List ℤ). OnOk c.put_array.result (FitsArray (FitsSigned w32) xs)) (map-id c.args.indexes.now) c.put_array.ensures.fits
