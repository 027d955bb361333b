-- What the bytes print is written from the front on, and zeros behind it.
use mathlib.Core.Path.{◌≡◌, ap, ◌∙◌}
use lib.ListN.{length}
use Rattle.sheet_listing.proofs.Inputs.{whole_room, printed, whole}
use Rattle.sheet_listing.proofs.list_sheet.Goals as goal

pub put_bytes-requires : goal.put_bytes-requires
put_bytes-requires c =
    let start = c.new-text in
    whole_room c.args.bytes.now start.result (ap length start.ensures.bytes ∙ c.told-out) start.ensures.front

pub returns : goal.returns
returns c =
    let start = c.new-text in
    let long : length start.result.bytes.now ≡ 65536 = ap length start.ensures.bytes ∙ c.told-out in
    let count = c.count-printed.ensures in (
      whole c.args.bytes.now start.result long start.ensures.front c.put_bytes.ensures count c.fill_from.ensures,
      count ∙ printed c.args.bytes.now start.result long start.ensures.front c.put_bytes.ensures,
    )
