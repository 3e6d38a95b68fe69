use Rattle.std.proofs.Common.{◌≡◌, Some, [], false, ◌^◌, ◌-◌}
use Rattle.std.proofs.Output.{has_written_of_eq}
use Rattle.std.specs.Fmt.{styled_digits_output, padded_integral, format_spec, digits}
use Rattle.world_text.proofs.BytesText.{byte_text}
use Rattle.world_text.proofs.text.write_byte.Goals as goal

pub returns : goal.returns
returns g c =
    let is : styled_digits_output c.in_radix.result c.laid_out.result ≡ Some (padded_integral (format_spec 32 0 4 2 (2 ^ 64 - 1)) false [] (digits 16 false c.args.byte)) = rw (c.laid_out.ensures, c.in_radix.ensures) in
    λ plain ok. has_written_of_eq _ _ _ _ _ (byte_text _ c.ranges.byte.fits) (let wrote = rw is at c.write.ensures.writes in wrote plain ok)
