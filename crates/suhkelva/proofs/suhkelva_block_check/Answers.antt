-- The block check promises its outcome, and C gets the fields of its reply. The place is 0 (`low_places`), so 32 bits hold it.
use Rattle.semantics.proofs.LowPlaces.{low_places}
use Rattle.suhkelva.proofs.Laws.{no_place}
use Rattle.suhkelva.proofs.suhkelva_block_check.Goals as goal

pub block_fields-requires : goal.block_fields-requires
block_fields-requires c = no_place c.block_check.ensures (low_places.block_check _ _)
