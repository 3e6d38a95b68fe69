-- What a tree gives, whatever is answered.
use Rattle.std.specs.Prelude.{⊤}
use Rattle.std.proofs.Common.{List, [], length}
use Rattle.wasi_world.specs.declared.ids.OpId.{OpId}
use Rattle.wasi_world.specs.declared.call.Call.{Call}
use Rattle.wasi_world.specs.declared.call.Call.TheVariants.{Write}
use Rattle.wasi_world.specs.declared.call.Entry.{Entry}
use Rattle.wasi_world.specs.Asks.{Asks, Give, Ask, AskWrite, bind, Left}
use Rattle.wasi_world.proofs.Allowed.{Allows, allows_then, allows_weaker, reached}

abbrev pub Gives : {A : Type 0} → (List Entry → A → Type 0) → List Entry → Asks A → Type 0
Gives Q before asks = Allows (λ es op call. ⊤) Q before asks

pub gives_then : {A B : Type 0} (R : List Entry → A → Type 0) (Q : List Entry → B → Type 0) (before : List Entry) (asks : Asks A) (f : A → Asks B) → Gives R before asks → ((es : List Entry) (a : A) → R es a → Gives Q es (f a)) → Gives Q before (bind asks f)
gives_then R Q before asks f h k = allows_then (λ es op call. ⊤) R Q before asks f h k

-- what holds of everything
pub gives_any : {A : Type 0} (Q : List Entry → A → Type 0) (any : (es : List Entry) (a : A) → Q es a) (before : List Entry) (asks : Asks A) → Gives Q before asks
gives_any Q any before (Give a) = any before a
gives_any Q any before (Ask op call next) = (tt, λ told fits. gives_any Q any _ (next told))
gives_any Q any before (AskWrite op sock bytes next) = (tt, λ told fits front. gives_any Q any _ (next told))

-- what is weaker
pub gives_more : {A : Type 0} (Q R : List Entry → A → Type 0) (more : (es : List Entry) (a : A) → Q es a → R es a) (before : List Entry) (asks : Asks A) → Gives Q before asks → Gives R before asks
gives_more Q R more before asks h = allows_weaker (λ es op call. ⊤) Q R more before asks h

-- what is weaker of each ask
pub allows_ask : {A : Type 0} (P R : List Entry → OpId → Call → Type 0) (Q : List Entry → A → Type 0) (weak : (es : List Entry) (op : OpId) (call : Call) → P es op call → R es op call) (before : List Entry) (asks : Asks A) → Allows P Q before asks → Allows R Q before asks
allows_ask P R Q weak before (Give a) h = h
allows_ask P R Q weak before (Ask op call next) h = (weak before op call h.0, λ told fits. allows_ask P R Q weak _ (next told) (h.1 told fits))
allows_ask P R Q weak before (AskWrite op sock bytes next) h = (weak before op (Write sock (length bytes)) h.0, λ told fits front. allows_ask P R Q weak _ (next told) (h.1 told fits front))

-- two at once
pub gives_both : {A : Type 0} (Q R : List Entry → A → Type 0) (before : List Entry) (asks : Asks A) → Gives Q before asks → Gives R before asks → Gives (λ es a. Q es a × R es a) before asks
gives_both Q R before (Give a) h k = (h, k)
gives_both Q R before (Ask op call next) h k = (tt, λ told fits. gives_both Q R _ (next told) (h.1 told fits) (k.1 told fits))
gives_both Q R before (AskWrite op sock bytes next) h k = (tt, λ told fits front. gives_both Q R _ (next told) (h.1 told fits front) (k.1 told fits front))

-- of each of these
pub gives_all : {A B : Type 0} (Q : B → List Entry → A → Type 0) (before : List Entry) (asks : Asks A) → ((b : B) → Gives (Q b) before asks) → Gives (λ es a. (b : B) → Q b es a) before asks
gives_all Q before (Give a) h = h
gives_all Q before (Ask op call next) h = (tt, λ told fits. gives_all Q _ (next told) (λ b. (h b).1 told fits))
gives_all Q before (AskWrite op sock bytes next) h = (tt, λ told fits front. gives_all Q _ (next told) (λ b. (h b).1 told fits front))

-- what holds under a premise
pub gives_where : {A : Type 0} (P : Type 0) (Q : List Entry → A → Type 0) (before : List Entry) (asks : Asks A) → (P → Gives Q before asks) → Gives (λ es a. P → Q es a) before asks
gives_where P Q before (Give a) h = h
gives_where P Q before (Ask op call next) h = (tt, λ told fits. gives_where P Q _ (next told) (λ p. (h p).1 told fits))
gives_where P Q before (AskWrite op sock bytes next) h = (tt, λ told fits front. gives_where P Q _ (next told) (λ p. (h p).1 told fits front))

-- of what was asked and answered
pub given : {A : Type 0} (Q : List Entry → A → Type 0) (asks : Asks A) (entries : List Entry) (a : A) → Gives Q [] asks → Left asks entries (Give a) → Q entries a
given Q asks entries a g w = reached (λ es op call. ⊤) Q [] asks entries (Give a) g w
