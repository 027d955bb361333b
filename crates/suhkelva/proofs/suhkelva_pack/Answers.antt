-- Packing promises its outcome, and C gets the fields of its reply. The place is at most 4 (`low_places`), so 32 bits hold it.
use Rattle.semantics.proofs.LowPlaces.{low_places}
use Rattle.suhkelva.proofs.Laws.{low_place}
use Rattle.suhkelva.proofs.suhkelva_pack.Goals as goal

pub packed_fields-requires : goal.packed_fields-requires
packed_fields-requires c = low_place c.pack.ensures (low_places.pack _)
