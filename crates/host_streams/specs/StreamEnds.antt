-- What the handle of a stream names: a connection, or a stream in memory.
use Rattle.std.specs.Prelude.{◌≡◌, false, Option, Some, None}
use Rattle.host_store.specs.declared.kind.Kind.{Kind}
use Rattle.host_store.specs.declared.kind.Kind.TheVariants.{Input, Output, PlainInput, PlainOutput}
use Rattle.host_streams.specs.declared.stream_ends.InputEnd.{InputEnd}
use Rattle.host_streams.specs.declared.stream_ends.InputEnd.TheVariants as from
use Rattle.host_streams.specs.declared.stream_ends.OutputEnd.{OutputEnd}
use Rattle.host_streams.specs.declared.stream_ends.OutputEnd.TheVariants as to
use Rattle.host_streams.specs.declared.stream_ends.NamedInput.{NamedInput}
use Rattle.host_streams.specs.declared.stream_ends.NamedOutput.{NamedOutput}
use Rattle.host_store.specs.Kinds.{HandleTable, kind_at, input_of, output_of, plain_input_of, plain_output_of, is_readable, is_writable}

-- the kind of a handle that names it
abbrev pub input_kind : InputEnd → Kind
input_kind (from.Connection place) = Input place
input_kind (from.Plain i) = PlainInput i

abbrev pub output_kind : OutputEnd → Kind
output_kind (to.Connection place) = Output place
output_kind (to.Plain o) = PlainOutput o

-- it is what its handle names
abbrev pub NamesInput : HandleTable → NamedInput → Type 0
NamesInput t i = kind_at t i.handle ≡ Some (input_kind i.end)

abbrev pub NamesOutput : HandleTable → NamedOutput → Type 0
NamesOutput t o = kind_at t o.handle ≡ Some (output_kind o.end)

-- a handle is no input's, or no output's
abbrev pub NoInput : Option Kind → Type 0
NoInput k = (input_of k ≡ None) × (plain_input_of k ≡ None) × (is_readable k ≡ false)

abbrev pub NoOutput : Option Kind → Type 0
NoOutput k = (output_of k ≡ None) × (plain_output_of k ≡ None) × (is_writable k ≡ false)
