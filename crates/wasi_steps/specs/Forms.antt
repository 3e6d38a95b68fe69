-- How the help writes a step's line: its context, its word, and letters for its arguments.
use Rattle.std.specs.Prelude.{ℕ, Bool, true, false, ◌==◌, List, [], ◌∷◌, ◌++◌, map, codes, Option, Some, None}
use Rattle.world_text.specs.Fields.{line_with}
use Rattle.wasi_steps.specs.declared.step.Step.{Step}
use Rattle.wasi_steps.specs.Arguments.{Target, ANetwork, ASocket, ASocket3, ADatagramSocket, ADatagramSocket3, AListener3, AnInput, AnOutput, AnIncoming, AnOutgoing, ALookup, AnError, Watchable, APollable, Anything, Kind, HandleOf, ALine, ACount, ACapacity, AFamily, ASocketAddress, AnOption, ASetting, AUdpOption, AUdpSetting, AHalf, AllBytes, ARemote, SomeDatagrams, ADatagram, SomePollables, AName, AReadEnd3, AWriteEnd3, AResult3}
use Rattle.wasi_steps.specs.Steps.{context_of, written_of}

-- the letters for a handle, and for an argument
abbrev pub handle_letters : Target → List ℕ
handle_letters ANetwork = codes "N"
handle_letters ASocket = codes "S"
handle_letters ASocket3 = codes "S"
handle_letters ADatagramSocket = codes "S"
handle_letters ADatagramSocket3 = codes "S"
handle_letters AnInput = codes "IN"
handle_letters AnOutput = codes "OUT"
handle_letters AnIncoming = codes "IN"
handle_letters AnOutgoing = codes "OUT"
handle_letters ALookup = codes "R"
handle_letters AnError = codes "E"
handle_letters Watchable = codes "H"
handle_letters APollable = codes "P"
handle_letters AListener3 = codes "H"
handle_letters AReadEnd3 = codes "H"
handle_letters AWriteEnd3 = codes "W"
handle_letters AResult3 = codes "R"
handle_letters Anything = codes "H"

abbrev pub letters : Kind → List ℕ
letters (HandleOf target) = handle_letters target
letters ALine = codes "N"
letters ACount = codes "L"
letters ACapacity = codes "L"
letters AFamily = codes "F"
letters ASocketAddress = codes "4 a b c d port"
letters AnOption = codes "OPTION"
letters ASetting = codes "OPTION V"
letters AUdpOption = codes "OPTION"
letters AUdpSetting = codes "OPTION V"
letters AHalf = codes "HOW"
letters AllBytes = codes "BYTES"
letters ARemote = codes "[4 a b c d port]"
letters SomeDatagrams = codes "DATAGRAM.."
letters ADatagram = codes "DATAGRAM"
letters SomePollables = codes "P.."
letters AName = codes "NAME"

-- the number of a context in front, where one makes the call
abbrev pub some_context : Option ℕ → List (List ℕ) → List (List ℕ)
some_context None fields = fields
some_context (Some c) fields = codes "0" ∷ fields

-- the form of a step's line
abbrev pub form_of : Step → List ℕ
form_of s = let w = written_of s in line_with (some_context (context_of s) (w.word ∷ map letters w.kinds))

-- the text begins so
abbrev pub begins : List ℕ → List ℕ → Bool
begins [] text = true
begins (a ∷ front) [] = false
begins (a ∷ front) (b ∷ text) = elim (a == b) [ true ↦ begins front text | false ↦ false ]

-- this stands somewhere in the text
abbrev pub stands_in : List ℕ → List ℕ → Bool
stands_in part [] = false
stands_in part (b ∷ text) = elim (begins part (b ∷ text)) [ true ↦ true | false ↦ stands_in part text ]

-- a line of the text is that of the step: its form, set in by four spaces, and two or more spaces before what the step does
abbrev pub has_form : List ℕ → Step → Bool
has_form text s = stands_in (codes "\n    " ++ form_of s ++ codes "  ") (codes "\n" ++ text)
