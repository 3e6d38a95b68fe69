use Rattle.world_text.proofs.Places.{position_is}
use Rattle.world_text.proofs.lines.newline_at.Goals as goal

pub returns : goal.returns
returns c = position_is _ _ _ c.memchr.ensures
