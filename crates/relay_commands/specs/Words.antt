-- What the words of the program ask for.
use Rattle.std.specs.Prelude.{ℕ, ◌==◌, if◌then◌else◌, bytes_eq, codes, List, [], ◌∷◌, Option, Some, None, option_map}
use Rattle.std.specs.Option.{option_and_then}
use Rattle.world_text.specs.Fields.{number_in}
use Rattle.wasi_addr.specs.declared.address.IpSocketAddress.{IpSocketAddress}
use Rattle.wasi_addr.specs.declared.address.IpSocketAddress.TheVariants.{Ipv4}
use Rattle.wasi_relay.specs.declared.order.Order.{Order}

-- a port of 127.0.0.1
abbrev pub local : ℕ → IpSocketAddress
local port = Ipv4 (record { port = port; address = (127, 0, 0, 1) })

-- a port that a word is, other than 0
abbrev pub not_zero : ℕ → Option ℕ
not_zero port = if port == 0 then None else Some port

abbrev pub target_in : List ℕ → Option ℕ
target_in word = option_and_then not_zero (number_in word 65535)

abbrev pub ordered : ℕ → ℕ → ℕ → ℕ → Order
ordered turns listen target connections =
    record { listen = local listen; target = local target; connections = connections; turns = turns }

-- two ports and a number of connections, with so many turns
abbrev pub order_in : List ℕ → List ℕ → List ℕ → ℕ → Option Order
order_in listen target connections turns =
    option_and_then (λ l. option_and_then (λ t. option_map (ordered turns l t) (number_in connections 4294967295)) (target_in target))
    (number_in listen 65535)

abbrev pub limited_in : List ℕ → List ℕ → List ℕ → List ℕ → Option Order
limited_in listen target connections turns = option_and_then (order_in listen target connections) (number_in turns 4096)

-- `relay LISTENPORT TARGETPORT CONNECTIONS TURNS`
abbrev pub scripted_in : List (List ℕ) → Option Order
scripted_in (word ∷ listen ∷ target ∷ connections ∷ turns ∷ []) =
    if bytes_eq word (codes "relay") then limited_in listen target connections turns else None
scripted_in _ = None

-- `--live LISTENPORT TARGETPORT CONNECTIONS`, with more turns than a session has steps
abbrev pub live_in : List (List ℕ) → Option Order
live_in (word ∷ listen ∷ target ∷ connections ∷ []) =
    if bytes_eq word (codes "--live") then order_in listen target connections 4294967295 else None
live_in _ = None
