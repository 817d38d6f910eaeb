use Rattle.std.proofs.Common.{◌≡◌, pos, arith}
use Rattle.jiff_core.specs.Date.{epoch_day}
use Rattle.jiff_core.proofs.SignedLemmas.{signed_casts}
use Rattle.bt_text.proofs.Dates.{from_1970}
use Rattle.bt_text.proofs.calendar.date_of.Goals as goal

pub returns : goal.returns
returns c =
    let day : epoch_day c.in-Ok.date ≡ pos c.args.days = omega (arith, signed_casts, c.in-Ok.ensures.value, c.requires) in
    from_1970 c.in-Ok.date c.args.days day
