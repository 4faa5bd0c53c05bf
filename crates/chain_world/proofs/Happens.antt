-- What one more happening does to the fields of a running world.
use Rattle.std.specs.Prelude.{ℕ, ◌≡◌, ◌+◌, ◌<◌, ◌==◌, ◌⊎◌, Bool, true, false, not, cond, if◌then◌else◌, ◌&&◌, ◌||◌, List, [], ◌∷◌, ◌++◌}
use Rattle.std.specs.Prelude.{length, map, All, Option, Some, None, is_some, is_none, Ok, slice_get, refl}
use Rattle.std.specs.List.{list_any, AllByRecursion, cons_option, range_with_len}
use Rattle.std.proofs.Common.{suc, sym, ◌∙◌, ap, subst, ⊎_elim, inl, inr, arith, get_or, set, append_assoc, zero-add}
use Rattle.std.proofs.lemmas.Bool.{cases_eq, eq-eqb, eqb-true, and_parts}
use Rattle.std.proofs.lemmas.List.{get_or-set_same, get_or-set_other, length-set, map-append}
use Rattle.std.proofs.lemmas.List.Folds.{list_any-append}
use Rattle.std.proofs.lemmas.List.FromFn.{length-map-range_with_len, get_or-map-range_with_len}
use Rattle.std.proofs.lemmas.List.Elements.{All-nil}
use Rattle.sccp_address.specs.declared.address.Address.{Address}
use Rattle.sccp_layout.specs.declared.parts.JoinFault.{JoinFault}
use Rattle.sccp_message.specs.declared.message.Message.{Message}
use Rattle.sccp_message.specs.Reading.{reading}
use Rattle.sccp_message.specs.Written.{message_octets, Sound}
use Rattle.sccp_message.specs.Unitdata.{called_of}
use Rattle.sccp_scrc.specs.Arriving.{point_of}
use Rattle.sccp_scrc.specs.Unitdata.{octets_of, write_fault}
use Rattle.plan_model.specs.Network as plans
use Rattle.plan_model.specs.Network.{IsPlan, node_of}
use Rattle.sccp_scrc.proofs.Redirected.{reads_again}
use Rattle.sccp_couple.specs.Coupling.{coupled}
use Rattle.sccp_couple.specs.Events.{Event, Answer}
use Rattle.sccp_couple.specs.Runs as coupling
use Rattle.sccp_couple.specs.Runs.{Moment}
use Rattle.sccp_couple.specs.Sending.{written_sent}
use Rattle.sccp_couple.specs.Ways.{event_of}
use Rattle.sccp_couple.proofs.Fairness.{IsFair, fair_happens}
use Rattle.sccp_couple.proofs.Ledger.{IsKept, kept_after, kept_happens}
use Rattle.couple_chain.specs.declared.delivered.Delivered.TheVariants.{Handled, Out}
use Rattle.couple_chain.specs.declared.happening.Happening.{Happening}
use Rattle.couple_chain.specs.declared.happening.Happening.TheVariants.{Offers, Delivers}
use Rattle.couple_chain.specs.declared.offer_fault.OfferFault.{OfferFault}
use Rattle.couple_chain.specs.declared.offer_fault.OfferFault.TheVariants.{NotAnEnd, NotANode, Connectionless, UsedReference, NotWritable}
use Rattle.couple_chain.specs.Fit.{IsFit}
use Rattle.couple_chain.specs.Relays.{Relaying, first_relay, relay_after}
use Rattle.couple_chain.specs.World.{Network, World, is_node, is_used, put_on, start, put, left, handled, event_at, messages_to, names}
use Rattle.couple_chain.specs.World.{name_of, uses_again, fault_by, unread, is_writable, offer_fault, offered_if, delivered_of, delivery_of}
use Rattle.couple_chain.specs.World.{happens, run, after}
use Rattle.couple_chain.proofs.Fit.{sent_fit}
use Rattle.couple_chain.proofs.Noted.{noted_happens}
use Rattle.couple_chain.proofs.Worlds.{none_by, offered_cases, delivered_cases, accepted_parts, put_left, put_there, put_on_offer}
use Rattle.couple_chain.proofs.Worlds.{put_on_else, moment_here, moment_there}
use Rattle.chain_world.specs.declared.link.Link.{Link}
use Rattle.chain_world.specs.Kept.{network_of}
use Rattle.chain_world.specs.Links.{octets_on, gone_from, with_at}
use Rattle.chain_world.specs.Answering.{octets_to, with_octets}
use Rattle.chain_world.specs.Offering.{early_fault, offers_of}
use Rattle.chain_world.specs.Running.{oldest_of, IsRelay, Keeps, IsWorld}
use Rattle.chain_world.proofs.Nodes.{At, points_differ}
use Rattle.chain_world.proofs.Stored.{same_way}

run_more : (network : Network) (w : World) (history : List Happening) (h : Happening)
    → run network w (history ++ h ∷ []) ≡ happens network (run network w history) h
run_more network w [] h = refl
run_more network w (x ∷ history) h = run_more network (happens network w x) history h

-- the world after a longer history is what its last happening makes of the world before
pub after_more : (network : Network) (history : List Happening) (h : Happening)
    → after network (history ++ h ∷ []) ≡ happens network (after network history) h
after_more network history h = run_more network start history h

-- ---- what every coupling of a world keeps

-- what holds of each ledger after a run of a coupling
pub record IsRegular (m : Moment) : Type 0 where
  pub kept : IsKept m
  pub fair : All (IsFair m.sections) m.pairs

regular_handled : (w : World) (node : ℕ) (event : Event) → ((n : ℕ) → IsRegular (w.moments n)) → (n : ℕ)
    → IsRegular ((handled w node event).moments n)
regular_handled w node event h n =
    ⊎_elim
    (λ (e : n ≡ node). subst IsRegular (sym (ap (handled w node event).moments e ∙ moment_here w node event))
    (record { kept = kept_happens (w.moments node) event (h node).kept; fair = fair_happens (w.moments node) event (h node).fair }))
    (λ (e : n ≡ node → ⊥). subst IsRegular (sym (moment_there w node event n e)) (h n))
    (cases_eq n node)

regular_happens : (network : Network) (w : World) (h : Happening) → ((n : ℕ) → IsRegular (w.moments n)) → (n : ℕ)
    → IsRegular ((happens network w h).moments n)
regular_happens network w (Offers from to message) is = offered_cases (λ v. (n : ℕ)
    → IsRegular (v.moments n)) network w from to message is (λ none. is)
regular_happens network w (Delivers from to) is =
    delivered_cases (λ v. (n : ℕ) → IsRegular (v.moments n)) network w from to is
    (λ message rest h inner. regular_handled (left w from to message rest) to (event_at network to from message) is)
    (λ message rest h outer. is)

regular_run : (network : Network) (w : World) (history : List Happening) → ((n : ℕ) → IsRegular (w.moments n)) → (n : ℕ)
    → IsRegular ((run network w history).moments n)
regular_run network w [] is = is
regular_run network w (h ∷ history) is = regular_run network (happens network w h) history (regular_happens network w h is)

-- it holds of each relay's ledger after every history
pub regular : (network : Network) (history : List Happening) (n : ℕ) → IsRegular ((after network history).moments n)
regular network history = regular_run network start history (λ n. record { kept = kept_after []; fair = All-nil (IsFair []) })

-- ---- an empty link delivers

or_false : (b : Bool) → (b || false) ≡ b
or_false true = refl
or_false false = refl

-- the delivery of an empty link leaves all that relays and links keep as it was
pub delivers_none : (plan : plans.Network) (relays : List Relaying) (links : List Link) (history : List Happening) (from to : ℕ)
    → IsWorld plan relays links history →
    (after (network_of plan) history).waiting from to ≡ [] → IsWorld plan relays links (history ++ Delivers from to ∷ [])
delivers_none plan relays links history from to is none =
    let network : Network = network_of plan in
    let w : World = after network history in
    subst (Keeps plan relays links (history ++ Delivers from to ∷ []))
    (sym (after_more network history (Delivers from to) ∙ ap (delivered_of network w from to) none))
    (record {
      is_plan = is.is_plan;
      count = is.count;
      each = is.each;
      octets = is.octets;
      gone = is.gone;
      fit = is.fit;
      used = λ f own end. is.used f own end ∙ sym (list_any-append (offers_of f own) history (Delivers from to ∷ [])
          ∙ or_false (list_any (offers_of f own) history));
    })

-- ---- fields that are the same, point by point

-- records of links that are the same, point by point, fit the same world
pub same_links : (plan : plans.Network) (relays : List Relaying) (links more : List Link) (history : List Happening)
    → IsWorld plan relays links history → ((a b : ℕ) → octets_on more a b ≡ octets_on links a b)
    → ((a b : ℕ) → gone_from more a b ≡ gone_from links a b) →
    IsWorld plan relays more history
same_links plan relays links more history is octets gone =
    record {
      is_plan = is.is_plan;
      count = is.count;
      each = is.each;
      octets = λ a b. octets a b ∙ is.octets a b;
      gone = λ a b. gone a b ∙ is.gone a b;
      fit = is.fit;
      used = is.used;
    }

-- ---- an accepted offer

all_append : {A : Type 0} (P : A → Type 0) (xs ys : List A) → AllByRecursion P xs → AllByRecursion P ys → AllByRecursion P (xs ++ ys)
all_append P [] ys h k = k
all_append P (x ∷ xs) ys h k = (h.0, all_append P xs ys h.1 k)

-- a fact on what each link holds, after a message is put on one
put_cases : (P : List Message → Type 0) (w : World) (from to : ℕ) (message : Message) (a b : ℕ) → P (put_on w a b)
    → P (put_on w from to ++ message ∷ []) → P (put_on (put w from to message) a b)
put_cases P w from to message a b same more =
    elim ((a == from) && (b == to)) as (λ c. ((a == from) && (b == to)) ≡ c → P (put_on (put w from to message) a b)) [
      | true ↦ λ e.
          let parts = and_parts (a == from) (b == to) e in
          subst P (sym (ap (λ (n : ℕ). put_on (put w from to message) n b) (eqb-true a from parts.0)
          ∙ ap (put_on (put w from to message) from) (eqb-true b to parts.1) ∙ put_on_offer w from to message)) more
      | false ↦ λ e. subst P (sym (put_on_else w from to message a b e)) same
    ] refl

octets_put : (w : World) (from to : ℕ) (message : Message) (a b : ℕ)
    → map message_octets (put_on (put w from to message) a b)
    ≡ with_at from to (map message_octets (put_on w from to) ++ message_octets message ∷ []) (λ c d. map message_octets (put_on w c d)) a b
octets_put w from to message a b =
    elim ((a == from) && (b == to)) as (λ c. ((a == from) && (b == to)) ≡ c →
    map message_octets (put_on (put w from to message) a b) ≡ cond c (map message_octets (put_on w from to) ++ message_octets message ∷ [])
    (map message_octets (put_on w a b))) [
      | true ↦ λ e.
          let parts = and_parts (a == from) (b == to) e in
          ap (map message_octets) (ap (λ (n : ℕ). put_on (put w from to message) n b) (eqb-true a from parts.0)
          ∙ ap (put_on (put w from to message) from) (eqb-true b to parts.1) ∙ put_on_offer w from to message)
          ∙ map-append message_octets (put_on w from to) (message ∷ [])
      | false ↦ λ e. ap (map message_octets) (put_on_else w from to message a b e)
    ] refl

or_swap : (a b c : Bool) → ((a || c) || b) ≡ ((a || b) || c)
or_swap true b c = refl
or_swap false true true = refl
or_swap false true false = refl
or_swap false false true = refl
or_swap false false false = refl

-- what some links of a point hold, after one of them gets a message more
any_else : (f g : ℕ → Bool) (nodes : List ℕ) → ((n : ℕ) → g n ≡ f n) → list_any g nodes ≡ list_any f nodes
any_else f g [] h = refl
any_else f g (n ∷ nodes) h = ap (λ (b : Bool). b || list_any g nodes) (h n) ∙ ap (λ (b : Bool). f n || b) (any_else f g nodes h)

any_one : (f g : ℕ → Bool) (to : ℕ) (x : Bool) (nodes : List ℕ) → ((n : ℕ) → g n ≡ (f n || (x && (n == to))))
    → list_any g nodes ≡ (list_any f nodes || (x && list_any (λ n. n == to) nodes))
any_one f g to x [] h = elim x as (λ b. false ≡ (false || (b && false))) [ true ↦ refl | false ↦ refl ]
any_one f g to x (n ∷ nodes) h =
    ap (λ (b : Bool). b || list_any g nodes) (h n)
    ∙ ap (λ (b : Bool). (f n || (x && (n == to))) || b) (any_one f g to x nodes h)
    ∙ spread (f n) x (n == to) (list_any f nodes) (list_any (λ m. m == to) nodes)
  where
    spread : (a x c d e : Bool) → ((a || (x && c)) || (d || (x && e))) ≡ ((a || d) || (x && (c || e)))
    spread true x c d e = refl
    spread false true true true e = refl
    spread false true true false e = refl
    spread false true false true e = refl
    spread false true false false e = refl
    spread false false c d e = refl

named_on : (w : World) (from to : ℕ) (message : Message) (f own n : ℕ)
    → list_any (names own) (put_on (put w from to message) f n) ≡ (list_any (names own) (put_on w f n)
    || (((from == f) && names own message) && (n == to)))
named_on w from to message f own n =
    elim (f == from) as (λ c. (f == from) ≡ c → list_any (names own) (put_on (put w from to message) f n)
    ≡ (list_any (names own) (put_on w f n) || (((from == f) && names own message) && (n == to)))) [
      | true ↦ λ e.
          let same : f ≡ from = eqb-true f from e in
          subst (λ (k : ℕ). list_any (names own) (put_on (put w from to message) k n) ≡ (list_any (names own) (put_on w k n)
          || (((from == k) && names own message) && (n == to)))) (sym same)
          (elim (n == to) as (λ c. (n == to) ≡ c → list_any (names own) (put_on (put w from to message) from n)
          ≡ (list_any (names own) (put_on w from n) || (((from == from) && names own message) && c))) [
            | true ↦ λ g.
                let there : n ≡ to = eqb-true n to g in
                ap (λ (k : ℕ). list_any (names own) (put_on (put w from to message) from k)) there
                ∙ ap (list_any (names own)) (put_on_offer w from to message)
                ∙ list_any-append (names own) (put_on w from to) (message ∷ [])
                ∙ ap (λ (k : ℕ). list_any (names own) (put_on w from k) || (names own message || false)) (sym there)
                ∙ ap (λ (b : Bool). list_any (names own) (put_on w from n)
                || b) (last (from == from) (names own message) (eq-eqb from from refl))
            | false ↦ λ g.
                ap (list_any (names own)) (put_on_else w from to message from n (ap (λ (b : Bool). (from == from) && b) g
                ∙ and_false (from == from)))
                ∙ sym (ap (λ (b : Bool). list_any (names own) (put_on w from n) || b) (and_false ((from == from) && names own message))
                ∙ or_false (list_any (names own) (put_on w from n)))
          ] refl)
      | false ↦ λ e.
          ap (list_any (names own)) (put_on_else w from to message f n (ap (λ (b : Bool). b && (n == to)) e))
          ∙ sym (ap (λ (b : Bool). list_any (names own) (put_on w f n) || ((b && names own message) && (n == to))) (same_way from f ∙ e)
          ∙ or_false (list_any (names own) (put_on w f n)))
    ] refl
  where
    and_false : (b : Bool) → (b && false) ≡ false
    and_false true = refl
    and_false false = refl

    last : (x y : Bool) → x ≡ true → (y || false) ≡ ((x && y) && true)
    last true true h = refl
    last true false h = refl
    last false y h = absurd (cc)

used_put : (network : Network) (w : World) (from to : ℕ) (message : Message) (f own : ℕ) → is_node network to ≡ true
    → is_used network (put w from to message) f own ≡ (is_used network w f own || ((from == f) && names own message))
used_put network w from to message f own there =
    any_one (λ n. list_any (names own) (put_on w f n)) (λ n. list_any (names own) (put_on (put w from to message) f n)) to ((from == f)
    && names own message) network.nodes (named_on w from to message f own)
    ∙ ap (λ (b : Bool). is_used network w f own || (((from == f) && names own message) && b)) there
    ∙ ap (λ (b : Bool). is_used network w f own || b) (and_true ((from == f) && names own message))
  where
    and_true : (b : Bool) → (b && true) ≡ b
    and_true true = refl
    and_true false = refl

-- after an accepted offer was put on its link, all is as the longer history says
pub accepted : (plan : plans.Network) (relays : List Relaying) (links more : List Link) (history : List Happening) (from to : ℕ)
    (message : Message) → IsWorld plan relays links history →
    offer_fault (network_of plan) (after (network_of plan) history) from to message ≡ None → IsFit message →
    ((a b : ℕ) → octets_on more a b ≡ with_at from to (octets_on links from to ++ message_octets message ∷ []) (octets_on links) a b)
    → ((a b : ℕ) → gone_from more a b ≡ gone_from links a b) →
    IsWorld plan relays more (history ++ Offers from to message ∷ [])
accepted plan relays links more history from to message is none fit octets gone =
    let network : Network = network_of plan in
    let w : World = after network history in
    let parts = accepted_parts network w from to message none in
    subst (Keeps plan relays more (history ++ Offers from to message ∷ []))
    (sym (after_more network history (Offers from to message) ∙ ap (λ (o : Option OfferFault). offered_if o w from to message) none))
    (record {
      is_plan = is.is_plan;
      count = is.count;
      each = is.each;
      octets = λ a b.
          octets a b
          ∙ ap (λ (os : List (List ℕ)). cond ((a == from) && (b == to)) (os ++ message_octets message ∷ []) (octets_on links a b))
          (is.octets from to)
          ∙ ap (λ (os : List (List ℕ)). cond ((a == from) && (b == to)) (map message_octets (put_on w from to) ++ message_octets message
          ∷ []) os) (is.octets a b)
          ∙ sym (octets_put w from to message a b);
      gone = λ a b. gone a b ∙ is.gone a b;
      fit = λ a b. put_cases (AllByRecursion IsFit) w from to message a b (is.fit a b)
          (all_append IsFit (put_on w from to) (message ∷ []) (is.fit from to) (fit, tt));
      used = λ f own end.
          used_put network w from to message f own parts.1
          ∙ ap (λ (b : Bool). b || ((from == f) && names own message)) (is.used f own end)
          ∙ sym (list_any-append (offers_of f own) history (Offers from to message ∷ [])
          ∙ ap (λ (b : Bool). list_any (offers_of f own) history || b) (or_false ((from == f) && names own message)));
    })

-- ---- a link that holds a message delivers it

gone_left : (w : World) (from to : ℕ) (message : Message) (rest : List Message) (a b : ℕ)
    → length ((left w from to message rest).arrived a b) ≡ with_at from to (length (w.arrived from to) + 1)
    (λ c d. length (w.arrived c d)) a b
gone_left w from to message rest a b =
    elim ((a == from) && (b == to)) as (λ c. length (cond c (w.arrived from to ++ message ∷ []) (w.arrived a b))
    ≡ cond c (length (w.arrived from to) + 1) (length (w.arrived a b))) [
      | true ↦ one_more (w.arrived from to) message
      | false ↦ refl
    ]
  where
    one_more : (ms : List Message) (m : Message) → length (ms ++ m ∷ []) ≡ length ms + 1
    one_more [] m = refl
    one_more (x ∷ ms) m = let e = one_more ms m in omega (arith, e)

one_gone : (links more : List Link) (w : World) (from to : ℕ) (message : Message) (rest : List Message)
    → ((a b : ℕ) → gone_from links a b ≡ length (w.arrived a b)) →
    ((a b : ℕ) → gone_from more a b ≡ with_at from to (gone_from links from to + 1) (gone_from links) a b) → (a b : ℕ)
    → gone_from more a b ≡ length ((left w from to message rest).arrived a b)
one_gone links more w from to message rest is gone a b =
    gone a b
    ∙ ap (λ (n : ℕ). cond ((a == from) && (b == to)) (n + 1) (gone_from links a b)) (is from to)
    ∙ ap (λ (n : ℕ). cond ((a == from) && (b == to)) (length (w.arrived from to) + 1) n) (is a b)
    ∙ sym (gone_left w from to message rest a b)

no_offer : (f own from to : ℕ) (history : List Happening)
    → list_any (offers_of f own) history ≡ list_any (offers_of f own) (history ++ Delivers from to ∷ [])
no_offer f own from to history = sym (list_any-append (offers_of f own) history (Delivers from to ∷ [])
    ∙ or_false (list_any (offers_of f own) history))

-- after a message was handed to an end, all is as the longer history says
pub comes_out : (plan : plans.Network) (relays : List Relaying) (links more : List Link) (history : List Happening) (from to : ℕ)
    (message : Message) (rest : List Message) → IsWorld plan relays links history →
    (after (network_of plan) history).waiting from to ≡ message ∷ rest → is_node (network_of plan) to ≡ false
    → ((a b : ℕ) → octets_on more a b ≡ octets_on links a b) →
    ((a b : ℕ) → gone_from more a b ≡ with_at from to (gone_from links from to + 1) (gone_from links) a b)
    → IsWorld plan relays more (history ++ Delivers from to ∷ [])
comes_out plan relays links more history from to message rest is queue outer octets gone =
    let network : Network = network_of plan in
    let w : World = after network history in
    let same = put_left w from to message rest queue in
    let handled_there : World = handled (left w from to message rest) to (event_at network to from message) in
    subst (Keeps plan relays more (history ++ Delivers from to ∷ []))
    (sym (after_more network history (Delivers from to) ∙ ap (delivered_of network w from to) queue
    ∙ ap (λ (b : Bool). cond b handled_there (left w from to message rest)) outer))
    (record {
      is_plan = is.is_plan;
      count = is.count;
      each = is.each;
      octets = λ a b. octets a b ∙ is.octets a b ∙ sym (ap (map message_octets) (same a b));
      gone = one_gone links more w from to message rest is.gone gone;
      fit = λ a b. subst (AllByRecursion IsFit) (sym (same a b)) (is.fit a b);
      used = λ f own end.
          any_else (λ n. list_any (names own) (put_on w f n))
          (λ n. list_any (names own) (put_on (left w from to message rest) f n)) network.nodes
          (λ n. ap (list_any (names own)) (same f n))
          ∙ is.used f own end
          ∙ no_offer f own from to history;
    })

-- ---- at a relay its coupling handles it

octets_sent : (b : ℕ) (sent : List Answer) → octets_to b (map written_sent sent) ≡ map message_octets (messages_to b sent)
octets_sent b [] = refl
octets_sent b (x ∷ sent) =
    elim (x.to == b) as (λ c. cons_option (cond c (Some (message_octets x.message)) None) (octets_to b (map written_sent sent))
    ≡ map message_octets (cons_option (cond c (Some x.message) None) (messages_to b sent))) [
      | true ↦ ap (λ (os : List (List ℕ)). message_octets x.message ∷ os) (octets_sent b sent)
      | false ↦ octets_sent b sent
    ]

fit_sent : (b : ℕ) (sent : List Answer) → AllByRecursion (λ (x : Answer). IsFit x.message) sent → AllByRecursion IsFit (messages_to b sent)
fit_sent b [] h = tt
fit_sent b (x ∷ sent) h =
    elim (x.to == b) as (λ c. AllByRecursion IsFit (cons_option (cond c (Some x.message) None) (messages_to b sent))) [
      | true ↦ (h.0, fit_sent b sent h.1)
      | false ↦ fit_sent b sent h.1
    ]

put_handled : (w : World) (node : ℕ) (event : Event) (a b : ℕ)
    → put_on (handled w node event) a b ≡ cond (a == node) (put_on w a b ++ messages_to b (coupled (w.moments node).sections event).sent)
    (put_on w a b)
put_handled w node event a b =
    elim (a == node) as (λ c. w.arrived a b ++ cond c (w.waiting a b ++ messages_to b (coupled (w.moments node).sections event).sent)
    (w.waiting a b) ≡ cond c (put_on w a b ++ messages_to b (coupled (w.moments node).sections event).sent) (put_on w a b)) [
      | true ↦ sym (append_assoc (w.arrived a b) (w.waiting a b) (messages_to b (coupled (w.moments node).sections event).sent))
      | false ↦ refl
    ]

is_relay_then : (node : ℕ) (m : Moment) (r : Relaying) (event : Event) → All (IsFair m.sections) m.pairs → IsRelay node m r
    → IsRelay node (coupling.happens m event) (relay_after r event)
is_relay_then node m r event fair is =
    let n = noted_happens m r event fair (record { sections = is.sections_are; passed = is.passed_is; given_is = is.given_are }) in
    record { node_is = is.node_is; sections_are = n.sections; passed_is = n.passed; given_are = n.given_is }

-- after a relay took the message, and its answers were put on their links, all is as the longer history says
pub handles : (plan : plans.Network) (relays : List Relaying) (links more : List Link) (history : List Happening) (from to place : ℕ)
    (message : Message) (rest : List Message) (r after_r : Relaying) → IsWorld plan relays links history →
    (after (network_of plan) history).waiting from to ≡ message ∷ rest → is_node (network_of plan) to ≡ true → At plan to place
    → r ≡ get_or relays place r → after_r ≡ relay_after r (event_of plan r.node [] from message) →
    ((a b : ℕ) → octets_on more a b ≡ with_octets to (map written_sent (coupled r.sections (event_of plan r.node [] from message)).sent)
    (octets_on links) a b) →
    ((a b : ℕ) → gone_from more a b ≡ with_at from to (gone_from links from to + 1) (gone_from links) a b)
    → IsWorld plan (set relays place after_r) more (history ++ Delivers from to ∷ [])
handles plan relays links more history from to place message rest r after_r is queue inner at r_is after_is octets gone =
    let network : Network = network_of plan in
    let w : World = after network history in
    let u : World = left w from to message rest in
    let event : Event = event_at network to from message in
    let v : World = handled u to event in
    let same = put_left w from to message rest queue in
    let lt : place < length relays = let a = at.within in let b = is.count in omega (arith, a, b) in
    let old : IsRelay place (w.moments to) r = subst (λ (n : ℕ). IsRelay place (w.moments n) r) at.point_is
    (subst (IsRelay place (w.moments (point_of plan place))) (sym r_is) (is.each place r lt)) in
    let event_is : event_of plan r.node [] from message ≡ event = ap (λ (n : ℕ). event_of plan n [] from message) (old.node_is
    ∙ sym at.found) in
    let sent : List Answer = (coupled (w.moments to).sections event).sent in
    let sent_is : (coupled r.sections (event_of plan r.node [] from message)).sent ≡ sent =
    ap (λ (e : Event). (coupled r.sections e).sent) event_is ∙ ap (λ l. (coupled l event).sent) old.sections_are in
    let next_is : after_r ≡ relay_after r event = after_is ∙ ap (relay_after r) event_is in
    let next : IsRelay place (coupling.happens (w.moments to) event) after_r = subst (IsRelay place (coupling.happens (w.moments to) event))
    (sym next_is) (is_relay_then place (w.moments to) r event (regular network history to).fair old) in
    let message_fit : IsFit message = first_waiting (w.arrived from to) message rest
    (subst (λ (ms : List Message). AllByRecursion IsFit (w.arrived from to ++ ms)) queue (is.fit from to)) in
    let all_fit : AllByRecursion (λ (x : Answer). IsFit x.message) sent =
    sent_fit plan (node_of plan.nodes to) [] (w.moments to).sections from message is.is_plan message_fit in
    subst (Keeps plan (set relays place after_r) more (history ++ Delivers from to ∷ []))
    (sym (after_more network history (Delivers from to) ∙ ap (delivered_of network w from to) queue ∙ ap (λ (b : Bool). cond b v u) inner))
    (record {
      is_plan = is.is_plan;
      count = length_set relays place after_r ∙ is.count;
      each = λ j d inside.
          let lj : j < length relays = let a = length_set relays place after_r in omega (arith, a, inside) in
          ⊎_elim
          (λ (e : j ≡ place).
          subst (λ (k : ℕ). IsRelay k (v.moments (point_of plan k)) (get_or (set relays place after_r) k d)) (sym e)
          (subst (λ (n : ℕ). IsRelay place (v.moments n) (get_or (set relays place after_r) place d)) (sym at.point_is)
          (subst (λ (m : Moment). IsRelay place m (get_or (set relays place after_r) place d)) (sym (moment_here u to event))
          (subst (IsRelay place (coupling.happens (w.moments to) event)) (sym (get_or-set_same relays place after_r d lt)) next))))
          (λ (e : j ≡ place → ⊥).
          subst (λ (m : Moment). IsRelay j m (get_or (set relays place after_r) j d))
          (sym (moment_there u to event (point_of plan j)
          (λ f. points_differ plan is.is_plan j place (omega (arith, is.count, lj)) at.within e (f ∙ sym at.point_is))))
          (subst (IsRelay j (w.moments (point_of plan j))) (sym (get_or-set_other relays place j after_r d e)) (is.each j d lj)))
          (cases_eq j place);
      octets = λ a b.
          octets a b
          ∙ ap (λ (x : List Answer). with_octets to (map written_sent x) (octets_on links) a b) sent_is
          ∙ ap (λ (os : List (List ℕ)). cond (a == to) (os ++ octets_to b (map written_sent sent)) os) (is.octets a b
          ∙ sym (ap (map message_octets) (same a b)))
          ∙ ap (λ (os : List (List ℕ)). cond (a == to) (map message_octets (put_on u a b) ++ os) (map message_octets (put_on u a b)))
          (octets_sent b sent)
          ∙ elim (a == to) as (λ c. cond c (map message_octets (put_on u a b) ++ map message_octets (messages_to b sent))
          (map message_octets (put_on u a b)) ≡ map message_octets (cond c (put_on u a b ++ messages_to b sent) (put_on u a b))) [
            | true ↦ sym (map-append message_octets (put_on u a b) (messages_to b sent))
            | false ↦ refl
          ]
          ∙ sym (ap (map message_octets) (put_handled u to event a b));
      gone = one_gone links more w from to message rest is.gone gone;
      fit = λ a b.
          subst (AllByRecursion IsFit) (sym (put_handled u to event a b))
          (elim (a == to) as (λ c. AllByRecursion IsFit (cond c (put_on u a b ++ messages_to b sent) (put_on u a b))) [
            | true ↦ all_append IsFit (put_on u a b) (messages_to b sent) (subst (AllByRecursion IsFit) (sym (same a b)) (is.fit a b))
                (fit_sent b sent all_fit)
            | false ↦ subst (AllByRecursion IsFit) (sym (same a b)) (is.fit a b)
          ]);
      used = λ f own end.
          any_else (λ n. list_any (names own) (put_on w f n)) (λ n. list_any (names own) (put_on v f n)) network.nodes
          (λ n. ap (list_any (names own)) (put_there u to event f n (λ e. node_not (is_node network to) inner (sym (ap (is_node network) e)
          ∙ end)) ∙ same f n))
          ∙ is.used f own end
          ∙ no_offer f own from to history;
    })
  where
    node_not : (b : Bool) → b ≡ true → b ≡ false → ⊥
    node_not true h k = let z : true ≡ false = k in cc
    node_not false h k = let z : false ≡ true = h in cc

    length_set : (rs : List Relaying) (i : ℕ) (x : Relaying) → length (set rs i x) ≡ length rs
    length_set rs i x = length-set rs i x

    first_waiting : (arrived : List Message) (m : Message) (rest : List Message) → AllByRecursion IsFit (arrived ++ m ∷ rest) → IsFit m
    first_waiting [] m rest h = h.0
    first_waiting (x ∷ arrived) m rest h = first_waiting arrived m rest h.1

-- ---- the oldest message of a link, as octets

at_front : (arrived waiting : List Message) → slice_get (map message_octets (arrived ++ waiting)) (length arrived)
    ≡ slice_get (map message_octets waiting) 0
at_front [] waiting = refl
at_front (x ∷ arrived) waiting = slice_get_next (message_octets x) (map message_octets (arrived ++ waiting)) (length arrived)
    ∙ at_front arrived waiting
  where
    slice_get_next : (x : List ℕ) (xs : List (List ℕ)) (i : ℕ) → slice_get (x ∷ xs) (suc i) ≡ slice_get xs i
    slice_get_next x xs i = refl

-- a link holds a message, and these are its octets
pub record IsOldest (waiting : List Message) (octets : List ℕ) : Type 0 where
  pub message : Message
  pub rest : List Message
  pub waiting_is : waiting ≡ message ∷ rest
  pub reads : reading octets ≡ Ok message
  pub fit : IsFit message

oldest_by : (waiting : List Message) (octets : List ℕ) → AllByRecursion IsFit waiting
    → slice_get (map message_octets waiting) 0 ≡ Some octets → IsOldest waiting octets
oldest_by [] octets fit h = absurd (let z : None ≡ Some octets = h in cc)
oldest_by (m ∷ rest) octets fit h =
    let e : message_octets m ≡ octets = cc in
    record {
      message = m;
      rest = rest;
      waiting_is = refl;
      reads = subst (λ (b : List ℕ). reading b ≡ Ok m) e
          (reads_again m fit.0.message fit.0.sound);
      fit = fit.0;
    }

nothing_by : (waiting : List Message) → slice_get (map message_octets waiting) 0 ≡ None → waiting ≡ []
nothing_by [] h = refl
nothing_by (m ∷ rest) h = absurd (let z : Some (message_octets m) ≡ None = h in cc)

behind : {A : Type 0} (P : A → Type 0) (xs ys : List A) → AllByRecursion P (xs ++ ys) → AllByRecursion P ys
behind P [] ys h = h
behind P (x ∷ xs) ys h = behind P xs ys h.1

-- the octets after those that a link has delivered are those of the first message that waits on it
pub front_is : (plan : plans.Network) (relays : List Relaying) (links : List Link) (history : List Happening) (from to : ℕ)
    → IsWorld plan relays links history →
    slice_get (octets_on links from to) (gone_from links from to)
    ≡ slice_get (map message_octets ((after (network_of plan) history).waiting from to)) 0
front_is plan relays links history from to is =
    let w : World = after (network_of plan) history in
    ap (λ (os : List (List ℕ)). slice_get os (gone_from links from to)) (is.octets from to)
    ∙ ap (λ (n : ℕ). slice_get (map message_octets (put_on w from to)) n) (is.gone from to)
    ∙ at_front (w.arrived from to) (w.waiting from to)

-- if a link has such octets, they read as the message that it delivers next, which can be handled
pub oldest_there : (plan : plans.Network) (relays : List Relaying) (links : List Link) (history : List Happening) (from to : ℕ)
    (octets : List ℕ) → IsWorld plan relays links history →
    slice_get (octets_on links from to) (gone_from links from to) ≡ Some octets
    → IsOldest ((after (network_of plan) history).waiting from to) octets
oldest_there plan relays links history from to octets is h =
    let w : World = after (network_of plan) history in
    oldest_by (w.waiting from to) octets (behind IsFit (w.arrived from to) (w.waiting from to) (is.fit from to))
    (sym (front_is plan relays links history from to is) ∙ h)

-- if it has none, no message waits on it
pub oldest_not : (plan : plans.Network) (relays : List Relaying) (links : List Link) (history : List Happening) (from to : ℕ)
    → IsWorld plan relays links history →
    slice_get (octets_on links from to) (gone_from links from to) ≡ None → (after (network_of plan) history).waiting from to ≡ []
oldest_not plan relays links history from to is h = nothing_by ((after (network_of plan) history).waiting from to)
    (sym (front_is plan relays links history from to is) ∙ h)

-- a link that holds a message has more than it delivered
pub more_there : (plan : plans.Network) (relays : List Relaying) (links : List Link) (history : List Happening) (from to : ℕ)
    (message : Message) (rest : List Message) → IsWorld plan relays links history →
    (after (network_of plan) history).waiting from to ≡ message ∷ rest → gone_from links from to < length (octets_on links from to)
more_there plan relays links history from to message rest is h =
    let w : World = after (network_of plan) history in
    let a = is.gone from to in
    let b = ap length (is.octets from to) in
    let c = longer (w.arrived from to) message rest in
    let d = ap (λ (ms : List Message). length (map message_octets (w.arrived from to ++ ms))) h in
    omega (arith, a, b, c, d)
  where
    longer : (ms : List Message) (m : Message) (rest : List Message) → length ms < length (map message_octets (ms ++ m ∷ rest))
    longer [] m rest = omega arith
    longer (x ∷ ms) m rest = let e = longer ms m rest in omega (arith, e)

-- if there is an oldest message, the list begins with it
pub holds_message : (ms : List Message) (m : Message) → oldest_of ms ≡ Some m → (rest : List Message) × (ms ≡ m ∷ rest)
holds_message [] m h = absurd (let z : None ≡ Some m = h in cc)
holds_message (x ∷ rest) m h = let e : x ≡ m = cc in (rest, ap (λ (y : Message). y ∷ rest) e)

-- ---- at the start

-- relays without sections and no records of links are a world in which nothing has happened
pub begins : (plan : plans.Network) (relays : List Relaying) (links : List Link) (history : List Happening) → IsPlan plan
    → relays ≡ map first_relay (range_with_len 0 (length plan.nodes)) → links ≡ [] → history ≡ [] → IsWorld plan relays links history
begins plan relays links history is relays_are links_are history_is =
    subst (λ (rs : List Relaying). IsWorld plan rs links history) (sym relays_are)
    (subst (λ (ls : List Link). IsWorld plan (map first_relay (range_with_len 0 (length plan.nodes))) ls history) (sym links_are)
    (subst (λ (h : List Happening). IsWorld plan (map first_relay (range_with_len 0 (length plan.nodes))) [] h) (sym history_is)
    (record {
      is_plan = is;
      count = length-map-range_with_len first_relay 0 (length plan.nodes);
      each = λ node d lt.
          subst (IsRelay node coupling.start) (sym (get_or-map-range_with_len first_relay 0 (length plan.nodes) node node d
          (let e = length-map-range_with_len first_relay 0 (length plan.nodes) in omega (arith, e, lt)) (zero-add node)))
          (record { node_is = refl; sections_are = refl; passed_is = tt; given_are = refl });
      octets = λ a b. refl;
      gone = λ a b. refl;
      fit = λ a b. tt;
      used = λ from own end. none_used (network_of plan).nodes;
    })))
  where
    none_used : (nodes : List ℕ) → list_any (λ n. false) nodes ≡ false
    none_used [] = refl
    none_used (n ∷ nodes) = none_used nodes

-- ---- a link that has delivered one more message than before the relay sent its own

-- if only the last of two steps has a link deliver, both together do
pub gone_over : (from to : ℕ) (old mid new : ℕ → ℕ → ℕ) → ((a b : ℕ) → mid a b ≡ old a b)
    → ((a b : ℕ) → new a b ≡ with_at from to (mid from to + 1) mid a b) → (a b : ℕ) → new a b ≡ with_at from to (old from to + 1) old a b
gone_over from to old mid new same more a b =
    more a b
    ∙ ap (λ (n : ℕ). cond ((a == from) && (b == to)) (n + 1) (mid a b)) (same from to)
    ∙ ap (λ (n : ℕ). cond ((a == from) && (b == to)) (old from to + 1) n) (same a b)

-- a link to a relay that holds a message answers that it was handled
pub handled_answer : (network : Network) (from to : ℕ) (waiting : List Message) (message : Message) (rest : List Message)
    → waiting ≡ message ∷ rest → is_node network to ≡ true → Handled ≡ delivery_of network to waiting
handled_answer network from to waiting message rest queue inner = sym (ap (delivery_of network to) queue
    ∙ ap (λ (b : Bool). cond b Handled (Out message)) inner)

-- ---- the tests of an offer

-- an offer that fails one of the tests before the last one fails it, whatever the last one says
pub early_stays : (network : Network) (w : World) (from to : ℕ) (message : Message) (f : OfferFault) (last : Bool)
    → early_fault network w from to message ≡ Some f →
    fault_by (is_node network from) (not (is_node network to)) (is_some (called_of message))
    (uses_again network w from (name_of message)) last ≡ Some f
early_stays network w from to message f last = go (is_node network from) (not (is_node network to)) (is_some (called_of message))
    (uses_again network w from (name_of message)) last
  where
    go : (a b c d e : Bool) → fault_by a b c d false ≡ Some f → fault_by a b c d e ≡ Some f
    go true b c d e h = h
    go false true c d e h = h
    go false false true d e h = h
    go false false false true e h = h
    go false false false false e h = absurd (let z : None ≡ Some f = h in cc)

-- an offer that passes all tests before the last one fails exactly if it fails that one
pub then_last : (network : Network) (w : World) (from to : ℕ) (message : Message) (last : Bool)
    → early_fault network w from to message ≡ None →
    fault_by (is_node network from) (not (is_node network to)) (is_some (called_of message))
    (uses_again network w from (name_of message)) last ≡ cond last (Some NotWritable) None
then_last network w from to message last = go (is_node network from) (not (is_node network to)) (is_some (called_of message))
    (uses_again network w from (name_of message)) last
  where
    go : (a b c d e : Bool) → fault_by a b c d false ≡ None → fault_by a b c d e ≡ cond e (Some NotWritable) None
    go true b c d e h = absurd (let z : Some NotAnEnd ≡ None = h in cc)
    go false true c d e h = absurd (let z : Some NotANode ≡ None = h in cc)
    go false false true d e h = absurd (let z : Some Connectionless ≡ None = h in cc)
    go false false false true e h = absurd (let z : Some UsedReference ≡ None = h in cc)
    go false false false false e h = refl

octets_cases : (o : Option JoinFault) (octets : List ℕ) → ((o ≡ None) × ((if is_none o then Some octets else None) ≡ Some octets))
    ⊎ ((is_none o ≡ false) × ((if is_none o then Some octets else None) ≡ None))
octets_cases None octets = inl (refl, refl)
octets_cases (Some f) octets = inr (refl, refl)

-- one that passes all tests before the last one, and can be written, passes them all
pub none_left : (network : Network) (w : World) (from to : ℕ) (message : Message) (octets : List ℕ)
    → early_fault network w from to message ≡ None → Sound message → octets_of message ≡ Some octets →
    (offer_fault network w from to message ≡ None) × (octets ≡ message_octets message)
none_left network w from to message octets early sound written =
    ⊎_elim
    (λ (yes_it : (write_fault message ≡ None) × (octets_of message ≡ Some (message_octets message))).
    let e : Some (message_octets message) ≡ Some octets = sym yes_it.1 ∙ written in
    let f : message_octets message ≡ octets = cc in (
      then_last network w from to message (not (is_writable message)) early
          ∙ ap (λ (b : Bool). cond (not b) (Some NotWritable) None) (ap (λ o. is_none o && is_none (unread message)) yes_it.0
          ∙ ap (λ (o : Option ℕ). is_none o) sound),
      sym f,
    ))
    (λ (not_it : (is_none (write_fault message) ≡ false) × (octets_of message ≡ None)). absurd (let e : None ≡ Some octets = sym not_it.1
    ∙ written in cc))
    (octets_cases (write_fault message) (message_octets message))

-- one that passes all tests before the last one, and cannot be written, fails the last one
pub not_written : (network : Network) (w : World) (from to : ℕ) (message : Message) → early_fault network w from to message ≡ None
    → octets_of message ≡ None → offer_fault network w from to message ≡ Some NotWritable
not_written network w from to message early none =
    ⊎_elim
    (λ (yes_it : (write_fault message ≡ None) × (octets_of message ≡ Some (message_octets message))). absurd
    (let e : Some (message_octets message) ≡ None = sym yes_it.1 ∙ none in cc))
    (λ (not_it : (is_none (write_fault message) ≡ false) × (octets_of message ≡ None)).
    then_last network w from to message (not (is_writable message)) early
    ∙ ap (λ (b : Bool). cond (not (b && is_none (unread message))) (Some NotWritable) None) not_it.0)
    (octets_cases (write_fault message) (message_octets message))

-- an offer that passes the tests before the last one is of a connection-oriented message
pub connection_of : (network : Network) (w : World) (from to : ℕ) (message : Message) → early_fault network w from to message ≡ None
    → called_of message ≡ None
connection_of network w from to message early =
    is_none_of (called_of message) (none_by (is_node network from) (not (is_node network to)) (is_some (called_of message))
    (uses_again network w from (name_of message)) false early).2
  where
    is_none_of : (o : Option Address) → is_some o ≡ false → o ≡ None
    is_none_of None h = refl
    is_none_of (Some a) h = absurd (let z : true ≡ false = h in cc)
