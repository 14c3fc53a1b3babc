-- Which words are a command.
use Rattle.std.specs.Prelude.{ℕ, ◌==◌, ◌&&◌, nat_le, Bool, false, not, List, [], ◌∷◌, Option, Some, None, option_map, codes, if◌then◌else◌}
use Rattle.std.specs.Char.{is_ascii_digit}
use Rattle.std.specs.List.{list_all}
use Rattle.std.specs.Str.{bytes_eq}
use Rattle.std.specs.Str.Parse.{digits_value}
use Rattle.pfr_args.specs.Plain.{is_plain}
use Rattle.pfr_flash.specs.declared.names.ContentType.{ContentType}
use Rattle.pfr_flash.specs.declared.names.ContentType.TheVariants.{PchManifest, PchCapsule, BmcManifest, BmcCapsule}
use Rattle.pfr.specs.Request.{RunRequest, CheckRequest, MakeRequest, ProvisionRequest, CertRequest}
use Rattle.pfr.specs.declared.words.Command.{Command}
use Rattle.pfr.specs.declared.words.Command.TheVariants.{Run, Check, Make, Provision, Cert}

-- decimal digits, the first of which is no zero
abbrev pub is_numeral : List ℕ → Bool
is_numeral [] = false
is_numeral (first ∷ rest) = list_all is_ascii_digit (first ∷ rest) && not (first == 48)

-- a wear is at most 16
abbrev pub wear_of : List ℕ → Option ℕ
wear_of word = if is_numeral word && nat_le (digits_value 10 word) 16 then Some (digits_value 10 word) else None

-- it is 8 where it is not given
abbrev pub wear_in : List (List ℕ) → Option ℕ
wear_in [] = Some 8
wear_in (word ∷ []) = wear_of word
wear_in _ = None

-- the files of a run, and its wear
abbrev pub run_request : List (List ℕ) → Option RunRequest
run_request (bmc ∷ pch ∷ nv ∷ engine ∷ script ∷ rest) =
    option_map (λ wear. record { bmc = bmc; pch = pch; nv = nv; engine = engine; script = script; wear = wear }) (wear_in rest)
run_request _ = None

-- the files of a check
abbrev pub check_request : List (List ℕ) → Option CheckRequest
check_request (bmc ∷ pch ∷ nv ∷ engine ∷ []) = Some (record { bmc = bmc; pch = pch; nv = nv; engine = engine })
check_request _ = None

-- a description, and a prefix
abbrev pub make_request : List (List ℕ) → Option MakeRequest
make_request (description ∷ prefix ∷ []) = Some (record { description = description; prefix = prefix })
make_request _ = None

-- a description, and a store
abbrev pub provision_request : List (List ℕ) → Option ProvisionRequest
provision_request (description ∷ nv ∷ []) = Some (record { description = description; nv = nv })
provision_request _ = None

-- the words for the types that keys sign
abbrev pub type_named : List ℕ → Option ContentType
type_named word =
    if bytes_eq word (codes "bmc-manifest") then Some BmcManifest
    else if bytes_eq word (codes "bmc-capsule") then Some BmcCapsule
    else if bytes_eq word (codes "pch-manifest") then Some PchManifest
    else if bytes_eq word (codes "pch-capsule") then Some PchCapsule
    else None

-- decimal digits, of which the first is no zero where there are more
abbrev pub is_decimal : List ℕ → Bool
is_decimal [] = false
is_decimal (digit ∷ []) = is_ascii_digit digit
is_decimal (first ∷ next ∷ rest) = list_all is_ascii_digit (first ∷ next ∷ rest) && not (first == 48)

-- a key's id is at most 255
abbrev pub id_of : List ℕ → Option ℕ
id_of word = if is_decimal word && nat_le (digits_value 10 word) 255 then Some (digits_value 10 word) else None

-- what a certificate is asked for, where its type and its id are known
abbrev pub cert_with : List ℕ → List ℕ → Option ContentType → Option ℕ → Option CertRequest
cert_with description prefix (Some type) (Some id) = Some (record { description = description; type = type; id = id; prefix = prefix })
cert_with description prefix _ _ = None

abbrev pub cert_request : List (List ℕ) → Option CertRequest
cert_request (description ∷ type ∷ id ∷ prefix ∷ []) = cert_with description prefix (type_named type) (id_of id)
cert_request _ = None

-- the command of such a name and such words behind it
abbrev pub command_named : List ℕ → List (List ℕ) → Option Command
command_named name rest =
    if bytes_eq name (codes "run") then option_map (λ request. Run request) (run_request rest)
    else if bytes_eq name (codes "check") then option_map (λ request. Check request) (check_request rest)
    else if bytes_eq name (codes "make") then option_map (λ request. Make request) (make_request rest)
    else if bytes_eq name (codes "provision") then option_map (λ request. Provision request) (provision_request rest)
    else if bytes_eq name (codes "cert") then option_map (λ request. Cert request) (cert_request rest)
    else None

abbrev pub shape_of : List (List ℕ) → Option Command
shape_of [] = None
shape_of (name ∷ rest) = command_named name rest

-- The command that the words are, if they are one: none is empty or begins with a dash, the first is its name, and then come its own.
abbrev pub command_of : List (List ℕ) → Option Command
command_of words = if list_all is_plain words then shape_of words else None
