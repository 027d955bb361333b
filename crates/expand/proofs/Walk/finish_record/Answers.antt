-- The list is made, or the record is refused; a list that was made is stored, where there is room.
use mathlib.Core.Path.{refl}
use Rattle.expand.proofs.Finishes.{finish_refused, finish_storing, finish_stored, finish_full}
use Rattle.expand.proofs.Walk.finish_record.Goals as goal

pub returns-in_default : goal.returns-in_default
returns-in_default c =
    let m = c.make_list-made in
    (record { sheet = refl; work = refl; pool = refl }, λ done o new there h. finish_refused c.requires m.result m.ensures c.unwrap_err.ensures done h)

pub store_list-stored-requires : goal.store_list-stored-requires
store_list-stored-requires c = finish_storing c.requires

pub returns-in_default-stored : goal.returns-in_default-stored
returns-in_default-stored c =
    let m = c.make_list-made in
    let s = c.store_list-stored in (
      record { sheet = refl; work = refl; pool = refl },
      λ done o new there h. finish_full c.requires m.result m.ensures c.in-Ok.is s.new.pool s.auto.pool s.result s.ensures done o new h
          c.unwrap_err-in_default-stored.ensures c.args.self.now.used,
    )

pub returns : goal.returns
returns c =
    let m = c.make_list-made in
    let s = c.store_list-stored in (
      record { sheet = refl; work = refl; pool = refl },
      λ done o new there h. finish_stored c.requires m.result m.ensures c.in-Ok.is s.new.pool s.auto.pool s.result s.ensures done o new h c.in-Ok-stored.is,
    )
