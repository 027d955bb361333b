-- Unpacking promises its outcome, and C gets the fields of its reply. The place is 0 (`low_places`), so 32 bits hold it.
use Rattle.semantics.proofs.LowPlaces.{low_places}
use Rattle.suhkelva.proofs.Laws.{no_place}
use Rattle.suhkelva.proofs.suhkelva_unpack.Goals as goal

pub record_fields-requires : goal.record_fields-requires
record_fields-requires c = no_place c.unpack.ensures (low_places.unpack _)
