use Rattle.pgs_world.proofs.Openings.{opened_sound}
use Rattle.pgs_world.proofs.world.World.new.Goals as goal

pub returns-clause-sound : goal.returns-clause-sound
returns-clause-sound c = opened_sound _ _ _ _ c.in_ok-world.ensures c.requires.few c.requires.groups c.requires.apart c.requires.sized
