-- What is known of a text as a source.
use Rattle.std.specs.Prelude.{Some, drop}
use Rattle.world_io.specs.Io.{Reading}
use Rattle.drawn_scripts.specs.declared.text_source.TextSource.{TextSource}

-- no read of it fails
abbrev pub reading_of : TextSource → Reading
reading_of s = record { left = Some (drop s.given s.text.items); ended = s.ended; faults = 0 }
