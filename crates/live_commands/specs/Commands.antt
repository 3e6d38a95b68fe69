-- What the program's words ask for.
use Rattle.std.specs.Prelude.{ℕ, List, [], ◌∷◌, Option, Some, None, option_map}
use Rattle.std.specs.Option.{option_and_then}
use Rattle.world_text.specs.Fields.{number_in}
use Rattle.live_commands.specs.declared.command.Command.{Command}

-- the ports that the words are
abbrev pub ports_in : List (List ℕ) → Option (List ℕ)
ports_in [] = Some []
ports_in (word ∷ words) = option_and_then (λ port. option_map (λ ports. port ∷ ports) (ports_in words)) (number_in word 65535)

-- a limit and any number of ports
abbrev pub command_in : List (List ℕ) → Option (ℕ × List ℕ)
command_in [] = None
command_in (word ∷ words) = option_and_then (λ limit. option_map (λ ports. (limit, ports)) (ports_in words)) (number_in word 4294967295)

-- what is seen of a command
abbrev pub shown : Command → ℕ × List ℕ
shown command = (command.limit, command.ports.items)
