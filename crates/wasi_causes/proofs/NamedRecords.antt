-- Of the machines that runs lead to: the record of a pending call is there, since none but that of a closed UDP socket is given back while a
-- call is pending, and so is
-- that of each job, since a record takes its jobs with it; and that of each live handle, since nothing live is of one that is gone.
use Rattle.wasi_walks.proofs.Places.{push_at, set_at}
use Rattle.wasi_causes.proofs.Words.{Allows, End, Entry, Err, ErrorCode, ErrorValue, Give, Item, Kind, Left, List, Machine, None, Ok, Operation, Option, Reply, Result, Some, Standing, StandingCall, Step, Tcp2, TcpRecord, WasiSocketsCtx, Watched, []}
use Rattle.wasi_causes.proofs.Words.{ap, call_place, first_state, is_some, kind_at, machine_asks, own_of, poll_asks, refl, run, slice_get, subst, sym, true, turn_asks, with_writer, ℕ, ⊤, ◌++◌, ◌∷◌, ◌∙◌, ◌≡◌}
use Rattle.std.proofs.Common.{slice_set, suc, zero}
use Rattle.wasi_tcp.specs.declared.listener.Accepting.TheVariants as accepting
use Rattle.wasi_udp.specs.Create.{Create, after_create as udp_after_create}
use Rattle.wasi_records.specs.Records.{slot_of}
use Rattle.wasi_records.specs.Records.{input_pipe_of, lookup_of, output_pipe_of, tcp2_at, tcp2_of, tcp2_put, udp2_at, udp2_of}
use Rattle.host_store.specs.declared.kind.Kind.TheVariants.{Incoming, Input, Lookup, Network, Outgoing, Output, PlainInput, PlainOutput, Pollable, Tcp3, Udp2, Udp3, Listen3, Receive3, Send3, Result3}
use Rattle.host_store.specs.declared.kind.PlainInput.TheVariants as plain_input
use Rattle.host_store.specs.declared.kind.PlainOutput.TheVariants as plain_output
use Rattle.lookup_records.specs.declared.name_lookup.LookupOp.{LookupOp}
use Rattle.wasi_records.specs.declared.records.Record.{Record}
use Rattle.udp_records.specs.declared.udp.UdpRecord.{UdpRecord}
use Rattle.wasi_walks.proofs.fits.Law.{whatever}
use Rattle.wasi_walks.proofs.fits.Polls.{Anything}
use Rattle.wasi_walks.proofs.owners.Owned.{named_by, named_record}
use Rattle.wasi_walks.proofs.walks.Moves as walk
use Rattle.wasi_walks.proofs.walks.Moves.{FoundUdp, GoesOn, Held, Here, Move, SameSockets, put, put_udp, udp_begun, with_records}
use Rattle.wasi_walks.proofs.claims.Law.{begins_fitting}
unfoldable use Rattle.wasi_walks.proofs.claims.Law.{fitting}
use Rattle.wasi_walks.proofs.fits.Datagrams.{CallHeld, Datagrams}
use Rattle.wasi_walks.proofs.fits.Law.{Fit}
use Rattle.wasi_walks.proofs.fits.Records.{FitCall}
use Rattle.wasi_walks.proofs.owners.Law.{Owns}
use Rattle.wasi_walks.proofs.walks.Layers.{begins_stand, stand}
use Rattle.wasi_walks.proofs.walks.States.{Over}
use Rattle.wasi_walks.proofs.walks.Steps.{may_while}
use Rattle.wasi_causes.proofs.Fitted.{Fitted, first_fitted, over_fitted, starts_fitted}
use Rattle.wasi_causes.proofs.Words.{OpId, gives_more}
use Rattle.wasi_walks.proofs.walks.Law.{BeginsWrites, Law}
use Rattle.wasi_walks.proofs.walks.Runs.{run_ends}
use Rattle.wasi_walks.proofs.walks.Steps.{machine_walks}
use Rattle.wasi_causes.proofs.Derived.{its_record, runs_own}
use Rattle.wasi_causes.specs.NamedRecords.{IsGivenBack, call_names, record_named}
use Rattle.wasi_causes.proofs.GivenBack.{no_job}
use Rattle.wasi_causes.proofs.Words.{Bool, false, if◌then◌else◌, IsSome, inl, inr, ◌⊎◌}
use Rattle.std.proofs.lemmas.Bool.{eq-eqb}
use Rattle.host_store.specs.GivingBack.{is_on, other_jobs}
use Rattle.wasi_records.specs.Numbered.{record_gone}
use Rattle.wasi_jobs.specs.declared.job.HostJob.{HostJob}
use Rattle.wasi_jobs.specs.declared.job.HostJob.TheVariants as job
use Rattle.wasi_walks.specs.Licence.{Has}
use Rattle.wasi_walks.proofs.walks.Moves.{IsRecord, KeepsJobs, job_place}
use Rattle.wasi_walks.proofs.walks.OfState.{Becomes, Created, CreatedWith, GivenUp, IsClosed, Learnt, OfState, Resolved, UdpBegun}
use Rattle.wasi_walks.proofs.walks.OfState.{UdpGivenUp, UdpIsClosed, UdpLearnt, Writing, begins_state, of_state}
use Rattle.wasi_walks.proofs.walks.Law.{InCall}

-- == records that are there
tcp_kept : (o : Option Record) (r : TcpRecord) → tcp2_of o ≡ Some r → IsRecord o
tcp_kept (Some (Record.Tcp x)) r e = tt
tcp_kept _ r e = absurd (cc)

udp_kept : (o : Option Record) (u : UdpRecord) → udp2_of o ≡ Some u → IsRecord o
udp_kept (Some (Record.Udp x)) u e = tt
udp_kept _ u e = absurd (cc)

lookup_kept : (o : Option Record) → is_some (lookup_of o) ≡ true → IsRecord o
lookup_kept (Some (Record.Lookup l)) e = tt
lookup_kept _ e = absurd (cc)

input_kept : (o : Option Record) → is_some (input_pipe_of o) ≡ true → IsRecord o
input_kept (Some (Record.InputPipe bytes)) e = tt
input_kept _ e = absurd (cc)

output_kept : (o : Option Record) → is_some (output_pipe_of o) ≡ true → IsRecord o
output_kept (Some (Record.OutputPipe pipe)) e = tt
output_kept _ e = absurd (cc)

slot_kept : (o : Option Record) → is_some (slot_of o) ≡ true → IsRecord o
slot_kept (Some (Record.Slot s)) e = tt
slot_kept _ e = absurd (cc)

kept_set : (xs : List Record) (i : ℕ) (now : Record) (k : ℕ) → IsRecord (Some now) → IsRecord (slice_get xs k)
    → IsRecord (slice_get (slice_set xs i now) k)
kept_set xs i now k new s = elim (set_at xs i now k) [
  | inl same ↦ subst IsRecord (sym same) s
  | inr its ↦ subst IsRecord (sym its.1) new
]

kept_push : (xs : List Record) (now : Record) (k : ℕ) → IsRecord (slice_get xs k) → IsRecord (slice_get (xs ++ now ∷ []) k)
kept_push xs now k s =
    elim (push_at xs now k) [ inl same ↦ subst IsRecord (sym same) s | inr its ↦ absurd (subst IsRecord its.2 s) ]

-- another is given back
kept_gone : (xs : List Record) (i k : ℕ) → (k ≡ i → ⊥) → IsRecord (slice_get xs k) → IsRecord (slice_get (record_gone xs i) k)
kept_gone [] i k other s = s
kept_gone (z ∷ xs) zero zero other s = absurd (other refl)
kept_gone (z ∷ xs) zero (suc k) other s = s
kept_gone (z ∷ xs) (suc i) zero other s = s
kept_gone (z ∷ xs) (suc i) (suc k) other s = kept_gone xs i k (λ e. other (ap suc e)) s

kept_same : {new : LookupOp → Type 0} (old now : List Record) (k : ℕ) → SameSockets new old now → IsRecord (slice_get old k) → IsRecord (slice_get now k)
kept_same old now k same = by_record (slice_get old k) refl
  where
    by_record : (o : Option Record) → slice_get old k ≡ o → IsRecord o → IsRecord (slice_get now k)
    by_record (Some (Record.Tcp r)) e s = tcp_kept (slice_get now k) r (same.tcp k ∙ ap tcp2_of e)
    by_record (Some (Record.Udp u)) e s = udp_kept (slice_get now k) u (same.udp k ∙ ap udp2_of e)
    by_record (Some (Record.Lookup l)) e s = lookup_kept (slice_get now k) (same.stays k (ap (λ (x : Option Record). is_some (lookup_of x)) e))
    by_record (Some (Record.InputPipe bytes)) e s = input_kept (slice_get now k) (same.inputs k (ap (λ (x : Option Record). is_some (input_pipe_of x)) e))
    by_record (Some (Record.OutputPipe pipe)) e s = output_kept (slice_get now k) (same.outputs k (ap (λ (x : Option Record). is_some (output_pipe_of x)) e))
    by_record (Some (Record.Slot slot)) e s = slot_kept (slice_get now k) (same.slots k (ap (λ (x : Option Record). is_some (slot_of x)) e))
    by_record (Some Record.Gone) e s = absurd s
    by_record None e s = absurd s

-- == a TCP record stays one
abbrev IsTcp : Option Record → Type 0
IsTcp (Some (Record.Tcp r)) = ⊤
IsTcp _ = ⊥

tcp_record : (o : Option Record) → IsTcp o → IsRecord o
tcp_record (Some (Record.Tcp r)) s = tt
tcp_record _ s = absurd s

tcp_found : (o : Option Record) (r : TcpRecord) → tcp2_of o ≡ Some r → IsTcp o
tcp_found (Some (Record.Tcp x)) r e = tt
tcp_found _ r e = absurd (cc)

no_udp : (o : Option Record) (u : UdpRecord) → udp2_of o ≡ Some u → IsTcp o → ⊥
no_udp (Some (Record.Tcp x)) u e s = absurd (cc)
no_udp _ u e s = s

tcp_set : (xs : List Record) (i : ℕ) (now : TcpRecord) (k : ℕ) → IsTcp (slice_get xs k) → IsTcp (slice_get (slice_set xs i (Record.Tcp now)) k)
tcp_set xs i now k s = elim (set_at xs i (Record.Tcp now) k) [
  | inl same ↦ subst IsTcp (sym same) s
  | inr its ↦ subst IsTcp (sym its.1) tt
]

udp_set : (xs : List Record) (i : ℕ) (was now : UdpRecord) (k : ℕ) → udp2_at xs i ≡ Some was → IsTcp (slice_get xs k) → IsTcp (slice_get (slice_set xs i (Record.Udp now)) k)
udp_set xs i was now k g s = elim (set_at xs i (Record.Udp now) k) [
  | inl same ↦ subst IsTcp (sym same) s
  | inr its ↦ absurd (no_udp (slice_get xs i) was g (subst (λ (n : ℕ). IsTcp (slice_get xs n)) its.0 s))
]

tcp_push : (xs : List Record) (now : Record) (k : ℕ) → IsTcp (slice_get xs k) → IsTcp (slice_get (xs ++ now ∷ []) k)
tcp_push xs now k s =
    elim (push_at xs now k) [ inl same ↦ subst IsTcp (sym same) s | inr its ↦ absurd (subst IsTcp its.2 s) ]

tcp_same : {new : LookupOp → Type 0} (old now : List Record) (k : ℕ) → SameSockets new old now → IsTcp (slice_get old k) → IsTcp (slice_get now k)
tcp_same old now k same = by_record (slice_get old k) refl
  where
    by_record : (o : Option Record) → slice_get old k ≡ o → IsTcp o → IsTcp (slice_get now k)
    by_record (Some (Record.Tcp r)) e s = tcp_found (slice_get now k) r (same.tcp k ∙ ap tcp2_of e)
    by_record _ e s = absurd s

-- what is a record, and what is one of TCP, is so afterwards
abbrev KeptAt : Option Record → Option Record → Type 0
KeptAt old now = (IsRecord old → IsRecord now) × (IsTcp old → IsTcp now)

-- == the pending call
-- its record is there, where it is of one; that of a drop that waits is of TCP
abbrev IsOfCall : StandingCall → Option Record → Type 0
IsOfCall (StandingCall.DropOutput place) o = IsTcp o
IsOfCall _ o = IsRecord o

of_call : (call : StandingCall) (o : Option Record) → IsOfCall call o → IsRecord o
of_call (StandingCall.DropOutput place) o s = tcp_record o s
of_call _ o s = s

call_kept : (call : StandingCall) (old now : Option Record) → KeptAt old now → IsOfCall call old → IsOfCall call now
call_kept (StandingCall.DropOutput place) old now f s = f.1 s
call_kept _ old now f s = f.0 s

abbrev CallIn : List Record → StandingCall → Type 0
CallIn records call = (place : ℕ) → call_names call ≡ Some place → IsOfCall call (slice_get records place)

abbrev StandsIn : List Record → Option Standing → Type 0
StandsIn records None = ⊤
StandsIn records (Some s) = CallIn records s.call

-- == and the jobs
abbrev JobsIn : List Record → List HostJob → Type 0
JobsIn records jobs = (job : HostJob) → Has jobs job → IsRecord (slice_get records (job_place job))

abbrev StoreIn : List Record → List HostJob → Option Standing → Type 0
StoreIn records jobs standing = StandsIn records standing × JobsIn records jobs

abbrev MachineIn : Machine → Type 0
MachineIn m = StoreIn m.store.records m.store.jobs m.store.standing

abbrev In : Here → Type 0
In h = MachineIn h.machine

stands_still : (old now : List Record) → ((k : ℕ) → KeptAt (slice_get old k) (slice_get now k)) → (o : Option Standing) → StandsIn old o → StandsIn now o
stands_still old now f None i = tt
stands_still old now f (Some s) i = λ place e. call_kept s.call (slice_get old place) (slice_get now place) (f place) (i place e)

moved : (old now : List Record) → ((k : ℕ) → KeptAt (slice_get old k) (slice_get now k)) → (jobs : List HostJob) (o : Option Standing) → StoreIn old jobs o → StoreIn now jobs o
moved old now f jobs o i = (stands_still old now f o i.0, λ job l. (f (job_place job)).0 (i.1 job l))

put_in : (h : Here) (place : ℕ) (now : TcpRecord) → In h → In (put h place now)
put_in h place now i = moved h.machine.store.records _ (λ k. (λ s. kept_set h.machine.store.records place (Record.Tcp now) k tt s, λ s. tcp_set h.machine.store.records place now k s)) h.machine.store.jobs h.machine.store.standing i

put_udp_in : (h : Here) (place : ℕ) {was : UdpRecord} (now : UdpRecord) → FoundUdp h place was → In h → In (put_udp h place now)
put_udp_in h place {was} now g i = moved h.machine.store.records _ (λ k. (λ s. kept_set h.machine.store.records place (Record.Udp now) k tt s, λ s. udp_set h.machine.store.records place was now k g s)) h.machine.store.jobs h.machine.store.standing i

push_in : (records : List Record) (new : Record) (jobs : List HostJob) (o : Option Standing) → StoreIn records jobs o → StoreIn (records ++ new ∷ []) jobs o
push_in records new jobs o i = moved records _ (λ k. (λ s. kept_push records new k s, λ s. tcp_push records new k s)) jobs o i

same_in : {new : LookupOp → Type 0} (h : Here) (records : List Record) → SameSockets new h.machine.store.records records → In h → In (with_records h records)
same_in h records same i = moved h.machine.store.records records (λ k. (λ s. kept_same h.machine.store.records records k same s, λ s. tcp_same h.machine.store.records records k same s)) h.machine.store.jobs h.machine.store.standing i

begun_in : (h : Here) (made : Result Create ErrorCode) → In h → In (udp_begun h made)
begun_in h (Ok create) i = push_in h.machine.store.records (Record.Udp (UdpRecord.Creating create)) h.machine.store.jobs h.machine.store.standing i
begun_in h (Err c) i = i

-- jobs that begin are of records that are there
listed_in : (records : List Record) (old now : List HostJob) → KeepsJobs records old now → JobsIn records old → JobsIn records now
listed_in records old now keeps i job l = elim (keeps job l) [ inl was ↦ i job was | inr there ↦ there ]

-- a record that is given back takes its jobs with it
was_a_job : (place : ℕ) (jobs : List HostJob) (job : HostJob) → Has (other_jobs place jobs) job → Has jobs job
was_a_job place [] job l = l
was_a_job place (j ∷ jobs) job l = by_test (is_on place j) (was_a_job place jobs job) l
  where
    by_test : (b : Bool) → (Has (other_jobs place jobs) job → Has jobs job) → Has (if b then other_jobs place jobs else j ∷ other_jobs place jobs) job → (j ≡ job) ⊎ Has jobs job
    by_test true rest k = inr (rest k)
    by_test false rest (inl is) = inl is
    by_test false rest (inr k) = inr (rest k)

is_its_job : (place : ℕ) (job : HostJob) → job_place job ≡ place → is_on place job ≡ true
is_its_job place (job.Write p) e = eq-eqb p place e
is_its_job place (job.Datagram p) e = eq-eqb p place e
is_its_job place (job.Receive p) e = eq-eqb p place e
is_its_job place (job.Lookup p) e = eq-eqb p place e

fewer_in : (records : List Record) (place : ℕ) (jobs : List HostJob) → JobsIn records jobs → JobsIn (record_gone records place) (other_jobs place jobs)
fewer_in records place jobs i job l = kept_gone records place (job_place job) (λ same. no_job place jobs job l (is_its_job place job same)) (i job (was_a_job place jobs job l))

-- a call that comes to be pending is of a record that is there
goes_in : (records : List Record) (call : StandingCall) (r : TcpRecord) → tcp2_at records (call_place call) ≡ Some r → GoesOn call r → CallIn records call
goes_in records (StandingCall.Bind n face) r g k place e = let same : n ≡ place = cc in subst (λ (x : ℕ). IsRecord (slice_get records x)) same (tcp_kept (slice_get records n) r g)
goes_in records (StandingCall.DropOutput n) r g k place e = let same : n ≡ place = cc in subst (λ (x : ℕ). IsTcp (slice_get records x)) same (tcp_found (slice_get records n) r g)
goes_in records _ r g k place e = absurd k

-- and so is a listen
listen_in : (records : List Record) (n : ℕ) (r : TcpRecord) → tcp2_at records n ≡ Some r → (place : ℕ) → Some n ≡ Some place → IsRecord (slice_get records place)
listen_in records n r g place e = let same : n ≡ place = cc in subst (λ (x : ℕ). IsRecord (slice_get records x)) same (tcp_kept (slice_get records n) r g)

-- or of a UDP socket's
udp_goes_in : (records : List Record) (n : ℕ) (u : UdpRecord) → udp2_at records n ≡ Some u → (place : ℕ) → Some n ≡ Some place → IsRecord (slice_get records place)
udp_goes_in records n u g place e = let same : n ≡ place = cc in subst (λ (x : ℕ). IsRecord (slice_get records x)) same (udp_kept (slice_get records n) u g)

-- == a record is given back while a call is pending: it is a closed UDP socket's, and the call's isn't
closed_apart : (records : List Record) (k place : ℕ) (side : OpId) (u : UdpRecord) → udp2_at records place ≡ Some (UdpRecord.Closed side) → udp2_at records k ≡ Some u → (u ≡ UdpRecord.Closed side → ⊥) → k ≡ place → ⊥
closed_apart records k place side u closed at other same = let e : Some u ≡ Some (UdpRecord.Closed side) = sym at ∙ (ap (udp2_at records) same ∙ closed) in other (cc)

tcp_apart : (records : List Record) (k place : ℕ) (side : OpId) → udp2_at records place ≡ Some (UdpRecord.Closed side) → IsTcp (slice_get records k) → k ≡ place → ⊥
tcp_apart records k place side closed s same = no_udp (slice_get records place) (UdpRecord.Closed side) closed (subst (λ (n : ℕ). IsTcp (slice_get records n)) same s)

calls_apart : (records : List Record) (call : StandingCall) (k place : ℕ) (side : OpId) → udp2_at records place ≡ Some (UdpRecord.Closed side) → FitCall records call → CallHeld records call → IsOfCall call (slice_get records k) → call_names call ≡ Some k → k ≡ place → ⊥
calls_apart records (StandingCall.Bind n face) k place side closed fit held s e = tcp_apart records k place side closed (let same : n ≡ k = cc in subst (λ (x : ℕ). IsTcp (slice_get records x)) same (tcp_found (slice_get records n) fit.was fit.at))
calls_apart records (StandingCall.Listen n marks) k place side closed fit held s e = tcp_apart records k place side closed (let same : n ≡ k = cc in subst (λ (x : ℕ). IsTcp (slice_get records x)) same (tcp_found (slice_get records n) fit.was fit.at))
calls_apart records (StandingCall.DropOutput n) k place side closed fit held s e = tcp_apart records k place side closed s
calls_apart records (StandingCall.UdpCreate n face) k place side closed fit held s e = λ same. let its : n ≡ k = cc in closed_apart records n place side _ closed fit.at (λ c. cc) (its ∙ same)
calls_apart records (StandingCall.UdpBind n face) k place side closed fit held s e = λ same. let its : n ≡ k = cc in closed_apart records n place side _ closed fit.at (λ c. cc) (its ∙ same)
calls_apart records (StandingCall.UdpConnect n handle) k place side closed fit held s e = λ same. let its : n ≡ k = cc in closed_apart records n place side _ closed fit.at (λ c. cc) (its ∙ same)
calls_apart records (StandingCall.UdpConnect3 n) k place side closed fit held s e = λ same. let its : n ≡ k = cc in closed_apart records n place side _ closed fit.at (λ c. cc) (its ∙ same)
calls_apart records (StandingCall.DropOutgoing n) k place side closed fit held s e = λ same. let its : n ≡ k = cc in closed_apart records n place side _ closed held.at (λ c. cc) (its ∙ same)
calls_apart records (StandingCall.Blocking call) k place side closed fit held s e = absurd (cc)

tcp_gone : (xs : List Record) (i k : ℕ) → (k ≡ i → ⊥) → IsTcp (slice_get xs k) → IsTcp (slice_get (record_gone xs i) k)
tcp_gone [] i k other s = s
tcp_gone (z ∷ xs) zero zero other s = absurd (other refl)
tcp_gone (z ∷ xs) zero (suc k) other s = s
tcp_gone (z ∷ xs) (suc i) zero other s = s
tcp_gone (z ∷ xs) (suc i) (suc k) other s = tcp_gone xs i k (λ e. other (ap suc e)) s

stands_apart : (records : List Record) (place : ℕ) (side : OpId) (o : Option Standing) → udp2_at records place ≡ Some (UdpRecord.Closed side) → ((s : Standing) → o ≡ Some s → FitCall records s.call) → ((s : Standing) → o ≡ Some s → CallHeld records s.call) → StandsIn records o → StandsIn (record_gone records place) o
stands_apart records place side None closed fits held i = tt
stands_apart records place side (Some s) closed fits held i = λ k e.
    let other = calls_apart records s.call k place side closed (fits s refl) (held s refl) (i k e) e in
    call_kept s.call (slice_get records k) (slice_get (record_gone records place) k) (kept_gone records place k other, tcp_gone records place k other) (i k e)

-- no call is pending, or its record is another
back_in : (h : Here) (place : ℕ) → walk.GoesBack h place → Datagrams h → Fit h → StandsIn h.machine.store.records h.machine.store.standing → StandsIn (record_gone h.machine.store.records place) h.machine.store.standing
back_in h place (walk.WhenIdle idle) d f i = subst (StandsIn (record_gone h.machine.store.records place)) (sym idle) tt
back_in h place (walk.WhenClosed side g) d f i = stands_apart h.machine.store.records place side h.machine.store.standing g f.stands d.stands i

module _ (contexts : List WasiSocketsCtx) (line : ℕ) (origin : Step) where
  moves_in : (h now : Here) → Move line origin h now → Datagrams h → Fit h → In h → In now
  moves_in _ _ (walk.Changes h place r now g p) held fit i = put_in h place now i
  moves_in _ _ (walk.ClosesReader h place r s g e) held fit i = put_in h place _ i
  moves_in _ _ (walk.Writes h place r s w g e m) held fit i = put_in h place _ i
  moves_in _ _ (walk.IsGone h place r q g e) held fit i = put_in h place _ i
  moves_in _ _ (walk.Reconnects h place r c now g e s t u) held fit i = put_in h place _ i
  moves_in _ _ (walk.Opens h place r c d g e n) held fit i = put_in h place _ i
  moves_in _ _ (walk.TakesEnd h handle place r now of g takes) held fit i = put_in h place now i
  moves_in _ _ (walk.AddsSlot h s) held fit i = push_in h.machine.store.records (Record.Slot s) h.machine.store.jobs h.machine.store.standing i
  moves_in _ _ (walk.BeginsConnect h place r side a bound at g d to known idle own) held fit i = put_in h place _ i
  moves_in _ _ (walk.BeginsBind h place r side a at g d to own) held fit i = put_in h place _ i
  moves_in _ _ (walk.BeginsWrite h place n r s half permit bytes at g e w within own) held fit i = put_in h place _ i
  moves_in _ _ (walk.BeginsListen h place r side bound at g d known free none to idle own) held fit i = put_in h place _ i
  moves_in _ _ (walk.BeginsAccept h place n r l at g e a own) held fit i = put_in h place _ i
  moves_in _ _ (walk.Unlistens h place r op q g e c o) held fit i = put_in h place _ i
  moves_in _ _ (walk.Forgets h place r l c g e a) held fit i = put_in h place _ i
  moves_in _ _ (walk.CancelsBind h place r op q g e) held fit i = put_in h place _ i
  moves_in _ _ (walk.UdpChanges h place o now g p keeps) held fit i = put_udp_in h place (UdpRecord.Open now) g i
  moves_in _ _ (walk.BeginsUdpBind h place o a at g to own) held fit i = put_udp_in h place _ g i
  moves_in _ _ (walk.BeginsUdpConnect h place o a bound at g to known none own) held fit i = put_udp_in h place _ g i
  moves_in _ _ (walk.BeginsSend h place n o out d bound at g e item known own) held fit i = put_udp_in h place _ g i
  moves_in _ _ (walk.BeginsReceive h place n o inc bound at g e is own) held fit i = put_udp_in h place _ g i
  moves_in _ _ (walk.CancelsUdpBind h place o op q g e) held fit i = put_udp_in h place _ g i
  moves_in _ _ (walk.CancelsUdpConnect h place o q g) held fit i = put_udp_in h place _ g i
  moves_in _ _ (walk.Joins h c handle place r l new peer is of u g e a) held fit i = push_in (tcp2_put h.machine.store.records place (walk.accepting_now r l accepting.Idle)) (Record.Tcp (walk.joined l new peer)) h.machine.store.jobs h.machine.store.standing (put_in h place (walk.accepting_now r l accepting.Idle) i)
  moves_in _ _ (walk.JoinsPlain h c listener remaining place r l new peer is of u g e a) held fit i = push_in (tcp2_put h.machine.store.records place (walk.accepting_now r l accepting.Idle)) (Record.Tcp (walk.joined_plain l new peer)) h.machine.store.jobs h.machine.store.standing (put_in h place (walk.accepting_now r l accepting.Idle) i)
  moves_in _ _ (walk.JoinsFault h place r l c u g e a) held fit i = push_in (tcp2_put h.machine.store.records place (walk.accepting_now r l accepting.Idle)) (Record.Tcp (walk.faulted l c)) h.machine.store.jobs h.machine.store.standing (put_in h place (walk.accepting_now r l accepting.Idle) i)
  moves_in _ _ (walk.Finds h records same) held fit i = same_in h records same i
  moves_in _ _ (walk.Unstands h over) held fit i = (tt, i.1)
  moves_in _ _ (walk.Stands h ids call r quiet at g k) held fit i = (goes_in h.machine.store.records call r g k, i.1)
  moves_in _ _ (walk.StandsListen h ids place marks r quiet at made g k) held fit i = (listen_in h.machine.store.records place r g, i.1)
  moves_in _ _ (walk.StandsUdpBind h ids place face o op quiet at g e) held fit i = (udp_goes_in h.machine.store.records place (UdpRecord.Open o) g, i.1)
  moves_in _ _ (walk.StandsUdpCreate h ids place face create quiet made g its) held fit i = (udp_goes_in h.machine.store.records place (UdpRecord.Creating create) g, i.1)
  moves_in _ _ (walk.StandsConnect h ids place o op quiet at past g e) held fit i = (udp_goes_in h.machine.store.records place (UdpRecord.Open o) g, i.1)
  moves_in _ _ (walk.StandsUdpConnect h ids place handle o op quiet at made g e) held fit i = (udp_goes_in h.machine.store.records place (UdpRecord.Open o) g, i.1)
  moves_in _ _ (walk.StandsDropOutgoing h ids place o quiet at g e) held fit i = (udp_goes_in h.machine.store.records place (UdpRecord.Open o) g, i.1)
  moves_in _ _ (walk.StandsBlocking h ids call handles made its) held fit i = (λ place e. absurd (cc), i.1)
  moves_in _ _ (walk.GivesBack h place goes left) held fit i = (back_in h place goes held fit i.0, fewer_in h.machine.store.records place h.machine.store.jobs i.1)
  moves_in _ _ (walk.Lists h jobs keeps) held fit i = (i.0, listed_in h.machine.store.records h.machine.store.jobs jobs keeps i.1)
  moves_in _ _ (walk.DropsUdp h place o idle made g) held fit i = put_udp_in h place _ g i
  moves_in _ _ _ held fit i = i

  polls_in : (h : Here) (op : Operation) (after : End × List Item → Here) → Held h op after → (end : End × List Item) → In h → In (after end)
  polls_in h _ _ (walk.BindsOn place r op q g e) end i = put_in h place _ i
  polls_in h _ _ (walk.Connects place r op g e) end i = put_in h place _ i
  polls_in h _ _ (walk.Listens place r op q g e c) end i = put_in h place _ i
  polls_in h _ _ (walk.Awaits place r l op g e a) end i = put_in h place _ i
  polls_in h _ _ (walk.UdpCreates place create q g) end i = put_udp_in h place _ g i
  polls_in h _ _ (walk.UdpBindsOn place o op q g e) end i = put_udp_in h place _ g i
  polls_in h _ _ (walk.UdpConnectsOn place o op q g e) end i = put_udp_in h place _ g i
  polls_in h _ _ (walk.UdpReconnectsOn place o op q g e) end i = put_udp_in h place _ g i
  polls_in h _ _ (walk.SendsOn place o out op left g e s settles) end i = put_udp_in h place _ g i
  polls_in h _ _ (walk.ReceivesOn place o inc op g e s) end i = put_udp_in h place _ g i

  becomes_in : (h now : Here) → Becomes contexts line origin h now → In h → In now
  becomes_in h _ (Learnt place r side told at g e) i = put_in h place _ i
  becomes_in h _ (IsClosed place r side q g e) i = put_in h place _ i
  becomes_in h _ (GivenUp place r q goes g) i = put_in h place _ i
  becomes_in h _ (UdpLearnt place o socket g e) i = put_udp_in h place _ g i
  becomes_in h _ (UdpIsClosed place o q g) i = put_udp_in h place _ g i
  becomes_in h _ (UdpGivenUp place create q g) i = put_udp_in h place _ g i
  becomes_in h _ (UdpBegun face ctx family r c u m) i = begun_in h (udp_after_create (own_of line) ctx.name family r) i
  becomes_in h _ (Resolved host records l same) i = same_in h records same i
  becomes_in h _ (Created face ctx family c u m) i =
      push_in h.machine.store.records _ h.machine.store.jobs h.machine.store.standing i
  becomes_in h _ (CreatedWith face ctx family c u m) i =
      push_in h.machine.store.records _ h.machine.store.jobs h.machine.store.standing i
  becomes_in h _ (Writing _ (InCall place n r s half permit bytes at g e w within used)) i = put_in h place _ i
  becomes_in h _ _ i = i

  abbrev in_state : OfState contexts line origin (λ es h. Owns h × (Datagrams h × Fit h))
  in_state = record {
    Holds = In;
    moves = λ es h now m b i. moves_in h now m b.1.0 b.1.1 i;
    becomes = λ es h now k b i. becomes_in h now k i;
    polls = λ es h op after held b i. whatever (λ end. In (after end)) (λ end. polls_in h op after held end i) es (poll_asks op);
    turns = λ es h place r s g e b i.
        whatever (λ done. In (put h place (with_writer r s done.1))) (λ done. put_in h place _ i) es (turn_asks s.writer);
  }

  -- over what it rests on
  unfoldable inside : Law contexts line origin
  unfolding fitting
  inside = stand (fitting contexts line origin) (of_state in_state)

  inside_begin : BeginsWrites inside
  unfolding inside fitting
  inside_begin = begins_stand (fitting contexts line origin) (of_state in_state) (begins_fitting contexts line origin) (begins_state in_state)

  line_stands : (m : Machine) (es : List Entry) → Fitted m × MachineIn m
      → Allows Anything (λ fs done. Fitted done.1 × MachineIn done.1) es (machine_asks contexts m line origin)
  unfolding inside fitting
  line_stands m es i =
      let walks = machine_walks line origin {law = inside} inside_begin m m.store.standing refl in
      gives_more (λ fs done. (Owns (Over done.1) × (Datagrams (Over done.1) × Fit (Over done.1))) × In (Over done.1)) (λ fs done. Fitted done.1 × MachineIn done.1)
      (λ fs done k. (over_fitted done.1 k.0, k.1)) es (machine_asks contexts m line origin)
      (walks.along es (starts_fitted m (may_while m origin m.store.standing) i.0, i.1))

-- == of a run
-- a handle that names no result slot names what the law of owners says it does
abbrev IsNoResult : Kind → Type 0
IsNoResult (Result3 place) = ⊥
IsNoResult _ = ⊤

same_name : (kind : Kind) → IsNoResult kind → record_named kind ≡ named_by kind
same_name Network plain = refl
same_name (Tcp2 place) plain = refl
same_name (Tcp3 place) plain = refl
same_name (Udp2 place) plain = refl
same_name (Udp3 place) plain = refl
same_name (Listen3 place) plain = refl
same_name (Receive3 end) plain = refl
same_name (Send3 end) plain = refl
same_name (Input place) plain = refl
same_name (Output place) plain = refl
same_name (PlainInput (plain_input.Pipe place)) plain = refl
same_name (PlainInput plain_input.Closed) plain = refl
same_name (PlainOutput (plain_output.Pipe place)) plain = refl
same_name (PlainOutput plain_output.Sink) plain = refl
same_name (PlainOutput plain_output.Closed) plain = refl
same_name (Incoming place) plain = refl
same_name (Outgoing place) plain = refl
same_name (Lookup place) plain = refl
same_name ErrorValue plain = refl
same_name (Pollable (Watched.Socket place)) plain = refl
same_name (Pollable (Watched.Input place)) plain = refl
same_name (Pollable (Watched.Output place)) plain = refl
same_name (Pollable (Watched.Udp place)) plain = refl
same_name (Pollable (Watched.Incoming place)) plain = refl
same_name (Pollable (Watched.Outgoing place)) plain = refl
same_name (Pollable (Watched.Lookup place)) plain = refl
same_name (Pollable Watched.Plain) plain = refl
same_name (Result3 place) plain = absurd plain

module _ (contexts : List WasiSocketsCtx) (steps : List Step) (es : List Entry) (replies : List Reply) (m : Machine) (w : Left (run contexts [] first_state 1 steps) es (Give (replies, m))) where
  by_name : (handle place : ℕ) (kind : Kind) → IsNoResult kind → kind_at m.table handle ≡ Some kind → record_named kind ≡ Some place → IsGivenBack m place → ⊥
  by_name handle place kind plain e named gone =
      let k = named_record m.table m.store.records (runs_own contexts steps es replies m w).0 handle place kind e (sym (same_name kind plain) ∙ named) in subst IsRecord gone k

  pub handles_name : (handle place : ℕ) (kind : Kind) → kind_at m.table handle ≡ Some kind → record_named kind ≡ Some place → IsGivenBack m place → ⊥
  handles_name handle place (Result3 slot) e named gone =
      let s = its_record m (runs_own contexts steps es replies m w) handle slot (Result3 slot) e (inl refl) in
      let same : slot ≡ place = cc in
      subst IsRecord gone (slot_kept (slice_get m.store.records place) (subst (λ (x : ℕ). IsSome (slot_of (slice_get m.store.records x))) same s))
  handles_name handle place kind e named gone = by_name handle place kind tt e named gone

  all_in : MachineIn m
  all_in = (run_ends contexts Anything (λ line fs now. Fitted now × MachineIn now) (λ line s now fs i. line_stands contexts line s now fs i) (first_fitted, (tt, λ job l. absurd l)) steps es replies m w).1.1

  pub calls_name : (s : Standing) (place : ℕ) → m.store.standing ≡ Some s → call_names s.call ≡ Some place → IsGivenBack m place → ⊥
  calls_name s place e named gone = let its : CallIn m.store.records s.call = subst (StandsIn m.store.records) e all_in.0 in subst IsRecord gone (of_call s.call _ (its place named))

  pub jobs_name : (job : HostJob) → Has m.store.jobs job → IsGivenBack m (job_place job) → ⊥
  jobs_name job l gone = subst IsRecord gone (all_in.1 job l)
