-- The line that answers a question.
use Rattle.std.specs.Prelude.{ℕ, Bool, false, not, if◌then◌else◌, List, [], ◌++◌, codes, decimal}
use Rattle.wasi_addr.specs.declared.address.IpSocketAddress.{IpSocketAddress}
use Rattle.wasi_addr.specs.declared.address.IpSocketAddress.TheVariants as socket
use Rattle.wasi_addr.specs.declared.address.SocketAddrUse.{SocketAddrUse}
use Rattle.wasi_addr.specs.declared.address.SocketAddrUse.TheVariants as usage
use Rattle.wasi_policy.specs.declared.rule.Rule.{Rule}
use Rattle.wasi_policy.specs.Decision.{decision}
use Rattle.wasi_policy.specs.Explained.{decision_text, rule_text, explanation}
use Rattle.policy_asks.specs.declared.answer.Form.{Form}
use Rattle.policy_asks.specs.declared.answer.Form.TheVariants as form
use Rattle.policy_asks.specs.declared.question.Question.{Question}

-- the wildcard address of the family of this one, at port 0
abbrev pub wildcard : IpSocketAddress → IpSocketAddress
wildcard (socket.Ipv4 address) = socket.Ipv4 (record { port = 0; address = (0, 0, 0, 0) })
wildcard (socket.Ipv6 address) =
    socket.Ipv6 (record { port = 0; flow_info = 0; address = (0, 0, 0, 0, 0, 0, 0, 0); scope_id = 0 })

-- a connect is asked for, and the rules don't allow the bind to the wildcard address that an unbound socket needs for it
abbrev pub lacks_bind_for : List Rule → SocketAddrUse → IpSocketAddress → Bool
lacks_bind_for rules usage.TcpConnect address = not (decision rules (wildcard address) usage.TcpBind).allow
lacks_bind_for rules _ address = false

abbrev pub lacks_bind : List Rule → Question → Bool
lacks_bind rules q = lacks_bind_for rules q.usage q.address

-- what is said of that
abbrev pub bind_note : List Rule → Question → List ℕ
bind_note rules q =
    if lacks_bind rules q then codes "; a socket that isn't bound needs `allow tcp-bind any 0 0` too" else []

-- with its newline
abbrev pub answer_line : List Rule → Form → Question → List ℕ
answer_line rules form.Decision q = decision_text (decision rules q.address q.usage) ++ codes "\n"
answer_line rules form.Rule q =
    let e = explanation rules q.address q.usage in decimal e.line ++ codes " " ++ rule_text e.rule ++ bind_note rules q ++ codes "\n"
