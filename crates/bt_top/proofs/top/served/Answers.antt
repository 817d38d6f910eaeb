use Rattle.std.proofs.Common.{◌∙◌}
use Rattle.bt_top.proofs.Endings.{ended_run, ended_unserved, unloaded_ends, unserved_ends}
use Rattle.bt_top.proofs.top.served.Goals as goal

pub returns-in-Ok-clause-run : goal.returns-in-Ok-clause-run
returns-in-Ok-clause-run g c d l k s holds =
    let loaded = c.in-Ok.ensures.stands d in
    ended_run g.D.Disk _ _ _ _ _ _ _ _ _ _ _ _ _ _ _ _ _ _ (c.in-Ok.ensures.limits ∙ c.standard.ensures) loaded.1 holds c.load.ensures.any_moment (c.session-exit.ensures.session d l k loaded.0 loaded.2)

pub returns-in-Err-clause-run : goal.returns-in-Err-clause-run
returns-in-Err-clause-run g c d l k s holds = ended_unserved g.D.Disk _ _ _ _ _ _ _ _ _ _ (unserved_ends _ c.in-Err.fault _ _ c.exit_of.ensures) holds (c.load.ensures.same d) c.load.ensures.any_moment

pub returns-in-Err-clause-unsound_exit : goal.returns-in-Err-clause-unsound_exit
returns-in-Err-clause-unsound_exit g c d unsound = unloaded_ends _ c.in-Err.fault c.exit_of.ensures

pub returns-in-Err-clause-unsound_stays : goal.returns-in-Err-clause-unsound_stays
returns-in-Err-clause-unsound_stays g c d unsound = c.load.ensures.same d

pub returns-in-Err-clause-unsound_images : goal.returns-in-Err-clause-unsound_images
returns-in-Err-clause-unsound_images g c d unsound = c.load.ensures.any_moment
