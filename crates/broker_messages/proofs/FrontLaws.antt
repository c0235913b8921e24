-- A body is a heartbeat of version 1 in one way, so it is cut at its regular expression in one way.
use Rattle.std.proofs.Common.{◌≡◌, ℕ, ℤ, pos, negsuc, List, [], ◌∷◌, ◌++◌, Option, Ok, Err, ◌≢◌, ◌-◌, ◌≤◌, length, take, refl, sym, ap, subst, ◌∙◌, append_assoc, length-append, rules, arith}
use Rattle.std.proofs.lemmas.List.{take_at}
use Rattle.std.specs.Prelude.{FitsSigned}
use Rattle.std.specs.Int.{w16}
use Rattle.std.specs.Option.{option_copied}
use Rattle.flex_wire.specs.Spelling.{int16, int32, nullable_string, tagged_fields, compact_nullable_string, FitsNullableText}
use Rattle.flex_wire.specs.Composed.{pair_at, nullable_array}
use Rattle.flex_wire.specs.declared.fault.WireFault.{WireFault}
use Rattle.flex_wire.specs.declared.fault.WireFault.TheVariants as wire
use Rattle.flex_wire.specs.Reading.{◌>>=◌, compact_nullable_string_at}
use Rattle.flex_wire.specs.Laws.{AreBytes, IsField}
use Rattle.flex_wire.proofs.Fields.{AreBytes-rest, bind_ok, ok_is, begins_no_other}
use Rattle.flex_wire.proofs.TextLaws.{compact_string_is_field, compact_nullable_string_is_field, nullable_string_is_field}
use Rattle.flex_wire.proofs.TagLaws.{tagged_fields_is_field}
use Rattle.flex_wire.proofs.ComposedLaws.{pair_is_field, nullable_array_is_field}
use Rattle.kip_msgs.specs.Values.{RequestHeaderValue, HeartbeatRequestValue, CommitRequestValue, RequestValue, heartbeat_request, commit_request}
use Rattle.kip_msgs.specs.Spelling.{fields, topic_partitions_fields, request_header_fields, heartbeat_request_fields, commit_request_fields, request_body, FitsRequestHeader, FitsHeartbeatRequest, SpellsRequest}
use Rattle.kip_msgs.proofs.MessageLaws.{int16_is_field, int32_is_field}
use Rattle.broker_messages.specs.declared.heartbeat.Heartbeat1.{Heartbeat1}
use Rattle.broker_messages.specs.Heartbeat.{heartbeat_1_header_fields, heartbeat_request_1_fields, SpellsHeartbeat1}
use Rattle.broker_messages.specs.Front.{SenderValue, SaidValue, sender_at, said_at, front_at, head_at, cut_at, front_fields, FitsFront, IsCut, as_version_0}

pub front_is_field : IsField FitsFront front_fields front_at
unfolding front_fields front_at sender_at said_at
front_is_field =
    pair_is_field
    (pair_is_field int32_is_field (pair_is_field nullable_string_is_field (pair_is_field tagged_fields_is_field (pair_is_field compact_string_is_field compact_string_is_field))))
    (pair_is_field int32_is_field (pair_is_field compact_nullable_string_is_field (pair_is_field compact_nullable_string_is_field (pair_is_field int32_is_field (nullable_array_is_field compact_string_is_field)))))

-- the front and the expression
cut_is_field : IsField (λ (p : (SenderValue × SaidValue) × Option (List ℕ)). FitsFront p.0 × FitsNullableText p.1) (λ p. front_fields p.0 ++ compact_nullable_string p.1) (pair_at front_at compact_nullable_string_at)
cut_is_field = pair_is_field front_is_field compact_nullable_string_is_field

head_is_field : IsField (λ (p : ℤ × ℤ). FitsSigned w16 p.0 × FitsSigned w16 p.1) (λ p. int16 p.0 ++ int16 p.1) head_at
unfolding head_at
head_is_field = pair_is_field int16_is_field int16_is_field

-- ---- reading

no_memory : (e : WireFault) → (e ≢ wire.NoMemory → ⊥) → e ≡ wire.NoMemory
no_memory wire.NoMemory h = refl
no_memory wire.Short h = absurd (h (λ same. absurd cc))
no_memory wire.NotShortest h = absurd (h (λ same. absurd cc))
no_memory wire.TooLong h = absurd (h (λ same. absurd cc))
no_memory wire.NotUtf8 h = absurd (h (λ same. absurd cc))
no_memory wire.TagOrder h = absurd (h (λ same. absurd cc))
no_memory wire.BadCount h = absurd (h (λ same. absurd cc))
no_memory wire.BadMark h = absurd (h (λ same. absurd cc))

-- what was read up to the expression, and it
pub record IsTaken (bytes rest : List ℕ) (regex : Option (List ℕ)) (back : List ℕ) : Type 0 where
  pub value : SenderValue × SaidValue
  pub front : FitsFront value
  pub fits : FitsNullableText regex
  pub bytes_are : bytes ≡ front_fields value ++ rest
  pub rest_is : rest ≡ compact_nullable_string regex ++ back

pub cut_taken : (bytes rest : List ℕ) (regex : Option (List ℕ)) (back : List ℕ) → AreBytes bytes → cut_at bytes ≡ Ok ((rest, regex), back) → IsTaken bytes rest regex back
unfolding cut_at
cut_taken bytes rest regex back are e =
    let p : (List ℕ × Option (List ℕ)) × List ℕ = ((rest, regex), back) in
    let a = bind_ok (front_at bytes) (λ front. compact_nullable_string_at front.1 >>= λ r. Ok ((front.1, r.0), r.1)) p e in
    let t = front_is_field.taken bytes a.0.0 a.0.1 are a.1 in
    let b = bind_ok (compact_nullable_string_at a.0.1) (λ r. Ok ((a.0.1, r.0), r.1)) p a.2 in
    let u = compact_nullable_string_is_field.taken a.0.1 b.0.0 b.0.1 (AreBytes-rest (front_fields a.0.0) a.0.1 (subst AreBytes t.1 are)) b.1 in
    let P : (List ℕ × Option (List ℕ)) × List ℕ → Type 0 = λ q. IsTaken bytes q.0.0 q.0.1 q.1 in
    subst P (ok_is ((a.0.1, b.0.0), b.0.1) p b.2) (record { value = a.0.0; front = t.0; fits = u.0; bytes_are = t.1; rest_is = u.1 })

cut_again : (bytes : List ℕ) (f : SenderValue × SaidValue) (regex : Option (List ℕ)) (back : List ℕ) → FitsFront f → FitsNullableText regex → bytes ≡ front_fields f ++ (compact_nullable_string regex ++ back) → cut_at bytes ≡ Ok ((compact_nullable_string regex ++ back, regex), back)
unfolding cut_at
cut_again bytes f regex back fits some is =
    ap cut_at is ∙ rw (front_is_field.again f (compact_nullable_string regex ++ back) fits, compact_nullable_string_is_field.again regex back some) refl

-- a cut that failed was of no heartbeat, or memory ran out
pub cut_fails : (bytes : List ℕ) (e : WireFault) → (e ≢ wire.NoMemory → cut_at bytes ≡ Err e) → (f : SenderValue × SaidValue) (regex : Option (List ℕ)) (back : List ℕ) → FitsFront f → FitsNullableText regex → bytes ≡ front_fields f ++ (compact_nullable_string regex ++ back) → e ≡ wire.NoMemory
cut_fails bytes e read f regex back fits some is =
    let again = cut_again bytes f regex back fits some is in
    no_memory e (λ other. let fault = read other in absurd cc)

pub cut_regex : (bytes rest : List ℕ) (own : Option (List ℕ)) (after : List ℕ) → cut_at bytes ≡ Ok ((rest, own), after) → (f : SenderValue × SaidValue) (regex : Option (List ℕ)) (back : List ℕ) → FitsFront f → FitsNullableText regex → bytes ≡ front_fields f ++ (compact_nullable_string regex ++ back) → own ≡ regex
cut_regex bytes rest own after read f regex back fits some is =
    let same = ok_is ((rest, own), after) ((compact_nullable_string regex ++ back, regex), back) (sym read ∙ cut_again bytes f regex back fits some is) in
    ap (λ (q : (List ℕ × Option (List ℕ)) × List ℕ). q.0.1) same

-- the front is what stands before the rest
pub front_is : (bytes front rest : List ℕ) → bytes ≡ front ++ rest → take (length bytes - length rest) bytes ≡ front
front_is bytes front rest is =
    let size : length bytes - length rest ≡ length front = omega (arith, ap length is, length-append front rest) in
    rw size (ap (take (length front)) is ∙ take_at front rest (length front) refl)

pub rest_fits : (bytes front rest : List ℕ) → bytes ≡ front ++ rest → length rest ≤ length bytes
rest_fits bytes front rest is = omega (arith, ap length is, length-append front rest)

-- ---- the key and the version

pub head_taken : (body : List ℕ) (key version : ℤ) (rest : List ℕ) → AreBytes body → head_at body ≡ Ok ((key, version), rest) → body ≡ int16 key ++ (int16 version ++ rest)
head_taken body key version rest are e = (head_is_field.taken body (key, version) rest are e).1 ∙ append_assoc (int16 key) (int16 version) rest

pub head_again : (body rest : List ℕ) → body ≡ int16 (pos 68) ++ (int16 (pos 1) ++ rest) → head_at body ≡ Ok ((pos 68, pos 1), rest)
head_again body rest is =
    ap head_at (is ∙ sym (append_assoc (int16 (pos 68)) (int16 (pos 1)) rest)) ∙ head_is_field.again (pos 68, pos 1) rest (search rules)

pub head_failed : (body : List ℕ) (e : WireFault) → head_at body ≡ Err e → (rest : List ℕ) → body ≡ int16 (pos 68) ++ (int16 (pos 1) ++ rest) → ⊥
head_failed body e fault rest is = let again = head_again body rest is in cc

-- what was read is what stands there
pub record IsHead (key version : ℤ) (left rest : List ℕ) : Type 0 where
  pub key_is : key ≡ pos 68
  pub version_is : version ≡ pos 1
  pub rest_is : left ≡ rest

pub head_is : (body : List ℕ) (key version : ℤ) (left : List ℕ) → head_at body ≡ Ok ((key, version), left) → (rest : List ℕ) → body ≡ int16 (pos 68) ++ (int16 (pos 1) ++ rest) → IsHead key version left rest
head_is body key version left read rest is =
    let same = ok_is ((key, version), left) ((pos 68, pos 1), rest) (sym read ∙ head_again body rest is) in
    record {
      key_is = ap (λ (q : (ℤ × ℤ) × List ℕ). q.0.0) same;
      version_is = ap (λ (q : (ℤ × ℤ) × List ℕ). q.0.1) same;
      rest_is = ap (λ (q : (ℤ × ℤ) × List ℕ). q.1) same;
    }

pub head_found : (body : List ℕ) (key version : ℤ) (rest : List ℕ) → AreBytes body → head_at body ≡ Ok ((key, version), rest) → key ≡ pos 68 → version ≡ pos 1 → body ≡ int16 (pos 68) ++ (int16 (pos 1) ++ rest)
head_found body key version rest are read k v = head_taken body key version rest are read ∙ rw (k, v) refl

-- ---- the parts of a heartbeat

abbrev pub front_of : RequestHeaderValue → HeartbeatRequestValue → SenderValue × SaidValue
front_of header v = (
  (header.correlation_id, (header.client_id, (header.tags, (v.group_id, v.member_id)))),
  (v.member_epoch, (v.instance_id, (v.rack_id, (v.rebalance_timeout_ms, v.subscribed_topic_names)))),
)

abbrev pub back_fields : HeartbeatRequestValue → List ℕ
back_fields v =
    fields (compact_nullable_string v.server_assignor ∷ nullable_array topic_partitions_fields v.topic_partitions ∷ tagged_fields v.tags ∷ [])

pub front_fits : (header : RequestHeaderValue) (v : HeartbeatRequestValue) → FitsRequestHeader header → FitsHeartbeatRequest v → FitsFront (front_of header v)
front_fits header v h f = (
  (h.correlation_id, (h.client_id, (h.tags, (f.group_id, f.member_id)))),
  (f.member_epoch, (f.instance_id, (f.rack_id, (f.rebalance_timeout_ms, f.subscribed_topic_names)))),
)

pub body_1_parts : (header : RequestHeaderValue) (v : HeartbeatRequestValue) (regex : Option (List ℕ)) → heartbeat_1_header_fields header ++ heartbeat_request_1_fields v regex ≡ int16 (pos 68) ++ (int16 (pos 1) ++ (front_fields (front_of header v) ++ (compact_nullable_string regex ++ back_fields v)))
unfolding heartbeat_1_header_fields heartbeat_request_1_fields front_fields
body_1_parts header v regex = simp append_assoc

body_0_parts : (header : RequestHeaderValue) (v : HeartbeatRequestValue) → request_body (heartbeat_request header v) ≡ int16 (pos 68) ++ (int16 (pos 0) ++ (front_fields (front_of header v) ++ back_fields v))
unfolding request_body request_header_fields heartbeat_request_fields front_fields
body_0_parts header v = simp append_assoc

-- ---- what stands after the key and the version

fits_68 : FitsSigned w16 (pos 68)
fits_68 = search rules

fits_8 : FitsSigned w16 (pos 8)
fits_8 = search rules

fits_1 : FitsSigned w16 (pos 1)
fits_1 = search rules

fits_0 : FitsSigned w16 (pos 0)
fits_0 = search rules

same_rest : (key version : ℤ) (x y : List ℕ) → FitsSigned w16 key → FitsSigned w16 version → int16 key ++ (int16 version ++ x) ≡ int16 key ++ (int16 version ++ y) → x ≡ y
same_rest key version x y k v e =
    let a = begins_no_other int16_is_field key key (int16 version ++ x) (int16 version ++ y) k k e in
    (begins_no_other int16_is_field version version x y v v a.1).1

abbrev size_of : ℤ → ℕ
size_of (pos n) = n
size_of (negsuc n) = n

keys_differ : pos 68 ≡ pos 8 → ⊥
keys_differ e =
    let n : size_of (pos 68) ≡ size_of (pos 8) = ap size_of e in
    omega (arith, n)

other_key : (header : RequestHeaderValue) (v : CommitRequestValue) (x : List ℕ) → int16 (pos 68) ++ x ≡ request_body (commit_request header v) → ⊥
unfolding request_body request_header_fields
other_key header v x e =
    let f = fields (int16 (pos 9) ∷ int32 header.correlation_id ∷ nullable_string header.client_id ∷ tagged_fields header.tags ∷ []) in
    let whole : int16 (pos 68) ++ x ≡ int16 (pos 8) ++ (f ++ commit_request_fields v) = e ∙ append_assoc (int16 (pos 8)) f (commit_request_fields v) in
    let same = begins_no_other int16_is_field (pos 68) (pos 8) x (f ++ commit_request_fields v) fits_68 fits_8 whole in
    keys_differ same.0

-- ---- what a cut says

-- a heartbeat of version 1 is cut at its expression
pub cut_means : (h : Heartbeat1) (body : List ℕ) → IsCut h body → (header : RequestHeaderValue) (v : HeartbeatRequestValue) (regex : Option (List ℕ)) → SpellsHeartbeat1 header v regex body → (option_copied h.subscribed_topic_regex ≡ regex) × SpellsRequest (heartbeat_request header v) (as_version_0 h)
cut_means h body cut header v regex spells =
    let own = option_copied h.subscribed_topic_regex in
    let f = cut.front.value in
    let whole = sym cut.bytes ∙ (spells.bytes ∙ body_1_parts header v regex) in
    let rest = same_rest (pos 68) (pos 1) _ _ fits_68 fits_1 whole in
    let parts : (front_fields f ++ compact_nullable_string own) ++ h.back.now ≡ (front_fields (front_of header v) ++ compact_nullable_string regex) ++ back_fields v =
    append_assoc (front_fields f) (compact_nullable_string own) h.back.now
    ∙ (ap (λ (l : List ℕ). l ++ (compact_nullable_string own ++ h.back.now)) (sym cut.front.encoded)
    ∙ (rest ∙ sym (append_assoc (front_fields (front_of header v)) (compact_nullable_string regex) (back_fields v)))) in
    let one = begins_no_other cut_is_field (f, own) (front_of header v, regex) h.back.now (back_fields v) (cut.front.fits, cut.regex) (front_fits header v spells.header spells.heartbeat, spells.regex) parts in
    let front : h.front.now ≡ front_fields (front_of header v) = cut.front.encoded ∙ ap (λ (p : (SenderValue × SaidValue) × Option (List ℕ)). front_fields p.0) one.0 in (
      ap (λ (p : (SenderValue × SaidValue) × Option (List ℕ)). p.1) one.0,
      record { fits = (spells.header, spells.heartbeat); bytes = rw (front, one.1) (sym (body_0_parts header v)) },
    )

-- what is a request without the expression was a heartbeat of version 1 with it
pub cut_only : (h : Heartbeat1) (body : List ℕ) → IsCut h body → (r : RequestValue) → SpellsRequest r (as_version_0 h) → (header : RequestHeaderValue) × (v : HeartbeatRequestValue) × (r ≡ heartbeat_request header v) × SpellsHeartbeat1 header v (option_copied h.subscribed_topic_regex) body
cut_only h body cut (commit_request header v) spells =
    absurd (other_key header v (int16 (pos 0) ++ (h.front.now ++ h.back.now)) spells.bytes)
cut_only h body cut (heartbeat_request header v) spells =
    let own = option_copied h.subscribed_topic_regex in
    let f = cut.front.value in
    let rest = same_rest (pos 68) (pos 0) _ _ fits_68 fits_0 (spells.bytes ∙ body_0_parts header v) in
    let parts : front_fields f ++ h.back.now ≡ front_fields (front_of header v) ++ back_fields v =
    ap (λ (l : List ℕ). l ++ h.back.now) (sym cut.front.encoded) ∙ rest in
    let one = begins_no_other front_is_field f (front_of header v) h.back.now (back_fields v) cut.front.fits (front_fits header v spells.fits.0 spells.fits.1) parts in
    let front : h.front.now ≡ front_fields (front_of header v) = cut.front.encoded ∙ ap front_fields one.0 in (
      header,
      v,
      refl,
      record {
        header = spells.fits.0;
        heartbeat = spells.fits.1;
        regex = cut.regex;
        bytes = cut.bytes ∙ rw (front, one.1) (sym (body_1_parts header v own));
      },
    )
