-- The definitions on logs where a backlog is set: that of a run, which is licensed, and others, which are not.
use Rattle.socket_common.specs.declared.setting.Setting.{Setting}
use Rattle.wasi_walks.proofs.Words.{Call, Entry, Give, InProgress, IsBacklogSet, IsLicensed, Left, List, Machine, None, OpId, Reply}
use Rattle.wasi_walks.proofs.Words.{SocketAddressFamily, Some, GuestCall, Step, TcpSetting, Told, [], ap, bind, entry, first_state, no_fields, number_fields}
use Rattle.wasi_walks.proofs.Words.{own_of, polls, refl, run, ⊤, ◌++◌, ◌∷◌, ◌≡◌}
use Rattle.std.specs.Prelude.{ℕ, ◌==◌, true, false}
use Rattle.wasi_walks.specs.Licence.{IsGetOf, IsSetTo}
use Rattle.wasi_walks.proofs.licence.Runs.{whole_licensed}
use Rattle.wasi_walks.proofs.licence.Rows.{bind_log, bind_script, two_handles, allowed, local_80}
use Rattle.wasi_walks.proofs.licence.Refused.{of_each, at_line}
use Rattle.wasi_walks.proofs.licence.ListenRows.{listening_record, listens_by}
use Rattle.wasi_addr.specs.declared.code.ErrorCode.TheVariants as code
use Rattle.wasi_world.specs.declared.call.HandleKind.TheVariants as kind
use Rattle.wasi_world.specs.declared.call.Opt.TheVariants as opt
use Rattle.wasi_records.specs.declared.records.Record.TheVariants as rec
use Rattle.wasi_steps.specs.declared.guest_call.TcpCall.{TcpCall}

-- == a backlog is set before the listen, which takes it, and again after it; and an option is set and reported
abbrev script : List Step
script = bind_script
    ++ (Step.Call 0 (GuestCall.Tcp (TcpCall.Set 2 (TcpSetting.ListenBacklogSize 7)))
    ∷ Step.Call 0 (GuestCall.Tcp (TcpCall.StartListen 2))
    ∷ Step.Call 0 (GuestCall.Tcp (TcpCall.FinishListen 2))
    ∷ Step.Call 0 (GuestCall.Tcp (TcpCall.Set 2 (TcpSetting.ListenBacklogSize 9)))
    ∷ Step.Call 0 (GuestCall.Tcp (TcpCall.Set 2 (TcpSetting.Option (Setting.HopLimit 3))))
    ∷ Step.Call 0 (GuestCall.Tcp (TcpCall.Get 2 opt.HopLimit))
    ∷ [])

-- until the listen was answered this
abbrev listens : Told → List Entry
listens t = bind_log ++ listens_by (own_of 6) 7 t

-- by this operation a backlog is set
abbrev set_by : OpId → Entry
set_by op = entry op (Call.SetBacklog (own_of 2) 9) Told.Done

abbrev sets : List Entry
sets = listens Told.Done
    ++ (set_by (own_of 8)
    ∷ entry (own_of 9) (Call.SetOption (own_of 2) opt.HopLimit 3) Told.Done
    ∷ entry (own_of 10) (Call.GetOption (own_of 2) opt.HopLimit) (Told.Value 3)
    ∷ [])

abbrev listening : Machine
listening = record { table = two_handles; store = record { records = rec.Tcp (listening_record 9 InProgress.Nothing) ∷ []; jobs = []; standing = None; beside = []; limits = record { context = 0; most = 18446744073709551615 } ∷ [] } }

abbrev done : Reply
done = Reply.Ok no_fields

abbrev replies : List Reply
replies = Reply.Ok (number_fields 1) ∷ Reply.Ok (number_fields 2) ∷ done ∷ done ∷ done ∷ done ∷ done ∷ done ∷ done ∷ Reply.Ok (number_fields 3) ∷ []

sets_run : Left (run allowed [] first_state 1 script) sets (Give (replies, listening))
unfolding bind polls
sets_run = ((refl, refl, tt), ((refl, refl, tt), ((refl, refl, tt), ((refl, refl, tt), ((refl, refl, tt), ((refl, refl, tt), ((refl, refl, tt), ((refl, refl, tt), ((refl, refl, tt), ((refl, refl, tt), ((refl, refl, tt), ((refl, refl, tt), ((refl, refl, tt), refl)))))))))))))

sets_licensed : IsLicensed allowed script sets replies
sets_licensed = whole_licensed allowed script sets replies listening refl sets_run

-- == the listen was answered with a code
abbrev NotDone : Told → Type 0
NotDone Told.Done = ⊥
NotDone _ = ⊤

-- no listen was answered done
abbrev NoListenDone : Call → Told → Type 0
NoListenDone (Call.Listen side backlog) t = NotDone t
NoListenDone _ t = ⊤

abbrev refused : List Entry
refused = listens (Told.Code code.AddressInUse)

refused_listen : IsLicensed allowed script (refused ++ set_by (own_of 8) ∷ []) [] → ⊥
refused_listen h =
    let may = h.each refused (set_by (own_of 8)) [] refl in
    of_each (λ e. NoListenDone e.call e.answer) refused _ (tt, (tt, (tt, (tt, (tt, (tt, (tt, (tt, (tt, (tt, tt)))))))))) may.2.told

-- == the line is no set of the backlog: a bind, or a set of something else
by_a_bind : IsLicensed allowed script (listens Told.Done ++ set_by (own_of 3) ∷ []) [] → ⊥
by_a_bind h =
    let may = h.each (listens Told.Done) (set_by (own_of 3)) [] refl in
    at_line (IsBacklogSet 9) (Step.Call 0 (GuestCall.Tcp (TcpCall.StartBind 2 1 local_80))) may.1.origin may.1.at may.1.holds

by_another_set : IsLicensed allowed script (listens Told.Done ++ set_by (own_of 9) ∷ []) [] → ⊥
by_another_set h =
    let may = h.each (listens Told.Done) (set_by (own_of 9)) [] refl in
    at_line (IsBacklogSet 9) (Step.Call 0 (GuestCall.Tcp (TcpCall.Set 2 (TcpSetting.Option (Setting.HopLimit 3))))) may.1.origin may.1.at may.1.holds

-- == another option than that of the line is asked for, or another value set
another_option : IsLicensed allowed script (listens Told.Done ++ entry (own_of 10) (Call.GetOption (own_of 2) opt.SendBufferSize) (Told.Value 3) ∷ []) [] → ⊥
another_option h =
    let may = h.each (listens Told.Done) (entry (own_of 10) (Call.GetOption (own_of 2) opt.SendBufferSize) (Told.Value 3)) [] refl in
    let is : opt.HopLimit ≡ opt.SendBufferSize = at_line (IsGetOf opt.SendBufferSize) (Step.Call 0 (GuestCall.Tcp (TcpCall.Get 2 opt.HopLimit))) may.1.origin may.1.at may.1.holds in cc

another_value : IsLicensed allowed script (listens Told.Done ++ entry (own_of 9) (Call.SetOption (own_of 2) opt.HopLimit 4) Told.Done ∷ []) [] → ⊥
another_value h =
    let may = h.each (listens Told.Done) (entry (own_of 9) (Call.SetOption (own_of 2) opt.HopLimit 4) Told.Done) [] refl in
    let is : ◌≡◌ {A = ℕ} 4 3 = (at_line (IsSetTo opt.HopLimit 4) (Step.Call 0 (GuestCall.Tcp (TcpCall.Set 2 (TcpSetting.Option (Setting.HopLimit 3))))) may.1.origin may.1.at may.1.holds).1 in
    let same : false ≡ true = ap (λ (n : ℕ). n == 3) is in
    cc

-- == another socket listens
abbrev two_sockets : List Step
two_sockets = bind_script ++ (Step.Call 0 (GuestCall.Tcp (TcpCall.Create SocketAddressFamily.Ipv4)) ∷ Step.Call 0 (GuestCall.Tcp (TcpCall.StartListen 2)) ∷ Step.Call 0 (GuestCall.Tcp (TcpCall.Set 3 (TcpSetting.ListenBacklogSize 9))) ∷ [])

abbrev one_listens : List Entry
one_listens = bind_log
    ++ (entry (own_of 5) (Call.TcpCreate 0 SocketAddressFamily.Ipv4) Told.Done ∷ entry (own_of 5) (Call.Made 3 kind.Tcp2 None (Some (own_of 5))) Told.Done ∷ listens_by (own_of 6) 128 Told.Done)

abbrev other : Entry
other = entry (own_of 7) (Call.SetBacklog (own_of 5) 9) Told.Done

-- each listen is of the second line's network socket
abbrev OfSecond : Call → Type 0
OfSecond (Call.Listen side backlog) = side ≡ own_of 2
OfSecond _ = ⊤

other_listens : IsLicensed allowed two_sockets (one_listens ++ other ∷ []) [] → ⊥
other_listens h =
    let may = h.each one_listens other [] refl in
    let side = of_each (λ e. OfSecond e.call) one_listens _ (tt, (tt, (tt, (tt, (tt, (tt, (tt, (tt, (tt, (tt, (tt, (refl, tt)))))))))))) may.2.told in
    let line = ap (λ (op : OpId). op.step) side in
    cc
