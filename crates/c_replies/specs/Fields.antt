-- The fields in which a reply goes to C: its number, its place, and its counts or numbers, 0 where it has none.
use Rattle.std.specs.Prelude.{get_or}
use Rattle.semantics.specs.Call.{Reply}
use Rattle.c_replies.specs.declared.SuhkelvaPacked.{SuhkelvaPacked}
use Rattle.c_replies.specs.declared.SuhkelvaRecord.{SuhkelvaRecord}
use Rattle.c_replies.specs.declared.SuhkelvaBlock.{SuhkelvaBlock}
use Rattle.c_replies.specs.declared.SuhkelvaSheet.{SuhkelvaSheet}
use Rattle.c_replies.specs.declared.SuhkelvaNumber.{SuhkelvaNumber}
use Rattle.c_replies.specs.declared.SuhkelvaWritten.{SuhkelvaWritten}

unfoldable pub packed_fields : Reply → SuhkelvaPacked
packed_fields r = record { number = r.number; place = r.place; packed = get_or r.numbers 0 0 }

unfoldable pub record_fields : Reply → SuhkelvaRecord
record_fields r = record {
  number = r.number;
  place = r.place;
  kind = get_or r.numbers 0 0;
  a = get_or r.numbers 1 0;
  b = get_or r.numbers 2 0;
  c = get_or r.numbers 3 0;
  d = get_or r.numbers 4 0;
}

unfoldable pub block_fields : Reply → SuhkelvaBlock
block_fields r = record { number = r.number; place = r.place; good = get_or r.numbers 0 0 }

unfoldable pub sheet_fields : Reply → SuhkelvaSheet
sheet_fields r = record {
  number = r.number;
  place = r.place;
  records = get_or r.numbers 0 0;
  constraints = get_or r.numbers 1 0;
  interactions = get_or r.numbers 2 0;
  words = get_or r.numbers 3 0;
  start = get_or r.numbers 4 0;
}

unfoldable pub number_fields : Reply → SuhkelvaNumber
number_fields r = record { number = r.number; place = r.place; value = get_or r.numbers 0 0 }

unfoldable pub written_fields : Reply → SuhkelvaWritten
written_fields r = record { number = r.number; place = r.place; count = get_or r.counts 0 0 }
