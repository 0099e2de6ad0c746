-- The page of a handle's values: markup of this crate, and the handle and what these values say as text, and nothing else.
-- Text that isn't of this crate stands apart from what is around it (`bdi`, `dir`), so that its direction changes nothing else.
use Rattle.std.specs.Prelude.{◌≡◌, ◌<◌, ◌≤◌, ◌∷◌, ℕ, ◌==◌, nat_le, Bool, true, false, not, ◌&&◌, ◌||◌, ◌⊎◌, List, [], ◌++◌, filter, length, codes, decimal, if◌then◌else◌, Option, Some, None, MatchOption, flat_map}
use Rattle.std.specs.List.{AllZip, concat, list_all, list_any}
use Rattle.std.specs.Str.{is_utf8}
use Rattle.hex.specs.Hex.{encode_lower}
use Rattle.hdl_name.specs.Name.{IsHandle}
use Rattle.hdl_value.specs.declared.references.RawRef.{RawRef}
use Rattle.hdl_value.specs.declared.value.Value.{Value}
use Rattle.hdl_value.specs.Refs.{admin_read, list_read}
use Rattle.hdl_value.specs.Permission.{mask_permits}
use Rattle.hdl_value.specs.declared.permission.AdminPermission.{AdminPermission}
use Rattle.hdl_value.specs.declared.permission.AdminPermission.TheVariants as may
use Rattle.hdl_languages.specs.Words.{words}
use Rattle.hdl_languages.specs.declared.language.Language.{Language}
use Rattle.hdl_languages.specs.declared.phrase.Phrase.{Phrase}
use Rattle.hdl_languages.specs.declared.phrase.Phrase.TheVariants as phrases
use Rattle.hdl_proxy.specs.Phrases.{phrase_part}
use Rattle.hdl_proxy.specs.declared.pages.TheConstants.{END}
use Rattle.hdl_proxy.specs.Choice.{is_of, is_url}
use Rattle.hdl_proxy.specs.Escape.{escaped}
use Rattle.hdl_proxy.specs.Link.{address_of, path_to, path_to_json, path_to_values}
use Rattle.hdl_proxy.specs.Note.{note_part}
use Rattle.hdl_proxy.specs.declared.note.Note.{Note}
use Rattle.hdl_proxy.specs.Status.{advice}
use Rattle.hdl_proxy.specs.Url.{IsFollowed}
use Rattle.hdl_proxy.specs.Words.{IsWritten, day_of}
use Rattle.hdl_proxy.specs.declared.codes.TheConstants.{HANDLE_NOT_FOUND, INVALID_HANDLE, OPERATION_DENIED, SERVICE_REFERRAL, TOO_FAR, VALUE_NOT_FOUND}

-- ---- pieces of a page

-- text between markup
abbrev pub element : List ℕ → List ℕ → List ℕ → List ℕ
element front text back = front ++ (escaped text ++ back)

-- the top of a page's main part: its heading, which is what the page says, or the name of the handle that it is about
unfoldable pub top : List ℕ → List ℕ
top heading = element (codes "<h1>") heading (codes "</h1>\n")

unfoldable pub name_top : List ℕ → List ℕ
name_top name = element (codes "<h1 dir=\"auto\">") name (codes "</h1>\n")

-- the name of a handle below what is said of it
abbrev pub name_part : List ℕ → List ℕ
name_part name = element (codes "<p class=\"name\" dir=\"auto\">") name (codes "</p>\n")

-- a handle's name, which leads to the page of its own values
unfoldable pub handle_link : List ℕ → List ℕ
handle_link name = codes "<a href=\"" ++ (escaped (path_to_values name) ++ element (codes "\"><bdi>") name (codes "</bdi></a>"))

-- the handle that may be meant, which leads to where its address does
unfoldable pub meant_link : Language → List ℕ → List ℕ
meant_link language name = phrase_part language (codes "<p class=\"note\">") phrases.DidYouMean (codes " <a href=\"") ++ (escaped (path_to name) ++ element (codes "\"><bdi>") name (codes "</bdi></a>?</p>\n"))

abbrev pub meant_part : Language → Option (List ℕ) → List ℕ
meant_part language None = []
meant_part language (Some name) = meant_link language name

-- a link to the same values as JSON
unfoldable pub json_part : Language → List ℕ → List ℕ
json_part language name =
    codes "<p><small><a href=\"" ++ (escaped (path_to_json name) ++ phrase_part language (codes "\">") phrases.AsJson (codes "</a></small></p>\n"))

-- the way to another handle
unfoldable pub another_part : Language → List ℕ
another_part language = phrase_part language (codes "<p><a href=\"/\">") phrases.FindAnother (codes "</a></p>\n")

-- ---- the data of a value

-- a permission, where the mask has it
abbrev pub permission_part : Language → ℕ → AdminPermission → Phrase → List ℕ
permission_part language mask permission item = if mask_permits mask permission then phrase_part language (codes "<li>") item (codes "</li>") else []

-- what may be done with handles, values and administrators
unfoldable pub handle_permissions : Language → ℕ → List ℕ
handle_permissions language mask =
    permission_part language mask may.AddHandle phrases.CreateHandles ++ (permission_part language mask may.DeleteHandle phrases.DeleteHandles
    ++ (permission_part language mask may.ListHandle phrases.ListHandles ++ permission_part language mask may.AuthorizedRead phrases.ReadHidden))

unfoldable pub value_permissions : Language → ℕ → List ℕ
value_permissions language mask =
    permission_part language mask may.AddValue phrases.AddValues ++ (permission_part language mask may.ModifyValue phrases.ChangeValues
    ++ permission_part language mask may.DeleteValue phrases.RemoveValues)

unfoldable pub admin_permissions : Language → ℕ → List ℕ
admin_permissions language mask =
    permission_part language mask may.AddAdmin phrases.AddAdministrators ++ (permission_part language mask may.ModifyAdmin phrases.ChangeAdministrators
    ++ permission_part language mask may.RemoveAdmin phrases.RemoveAdministrators)

unfoldable pub permissions_part : Language → ℕ → List ℕ
permissions_part language mask =
    codes "<ul class=\"may\">" ++ (handle_permissions language mask ++ (value_permissions language mask ++ (admin_permissions language mask ++ codes "</ul>\n")))

-- an administrator, folded: its key, and what it may do
unfoldable pub admin_part : Language → ℕ × RawRef → List ℕ
admin_part language x =
    phrase_part language (codes "<details><summary>") phrases.WhoMayChange (codes "</summary>\n")
    ++ (phrase_part language (codes "<p>") phrases.HolderOfKey (codes " <span class=\"data\">") ++ (escaped (decimal x.1.index) ++ (codes ":<bdi>"
    ++ (escaped x.1.handle ++ (phrase_part language (codes "</bdi></span> ") phrases.May (codes "</p>\n") ++ (permissions_part language x.0 ++ codes "</details>\n"))))))

-- a reference of a list
unfoldable pub reference_part : RawRef → List ℕ
reference_part r = codes "<p class=\"data\">" ++ (escaped (decimal r.index) ++ (codes ":<bdi>" ++ (escaped r.handle ++ codes "</bdi></p>\n")))

-- text without control octets but tabs and line ends
abbrev pub is_plain_octet : ℕ → Bool
is_plain_octet octet = (octet == 9) || (octet == 10) || (nat_le 32 octet && not (octet == 127))

abbrev pub is_plain : List ℕ → Bool
is_plain octets = is_utf8 octets && list_all is_plain_octet octets

-- octets as text where they are plain, and else their number and their hexadecimal digits
abbrev pub plain_part : List ℕ → List ℕ
plain_part octets = element (codes "<p class=\"text\" dir=\"auto\">") octets (codes "</p>\n")

unfoldable pub digits_part : Language → List ℕ → List ℕ
digits_part language octets =
    phrase_part language (codes "<p>") phrases.NotText (codes " ") ++ (escaped (decimal (length octets)) ++ (codes "</p>\n" ++ element (codes "<p class=\"data\">") (encode_lower octets) (codes "</p>\n")))

abbrev pub octets_part : Language → List ℕ → List ℕ
octets_part language octets = if is_plain octets then plain_part octets else digits_part language octets

-- a link to this address, under this text
unfoldable pub link_part : List ℕ → List ℕ → List ℕ
link_part to text = codes "<p class=\"data\" dir=\"auto\"><a rel=\"noreferrer\" href=\"" ++ (escaped to ++ (codes "\">" ++ (escaped text ++ codes "</a></p>\n")))

-- octets are a link where they are plain and a URL that is followed, by its address as it stands in a Location, and else they stand as they are
abbrev pub IsLinked : List ℕ → Type 0
IsLinked octets = IsFollowed octets × (is_plain octets ≡ true)

abbrev pub IsOctetsPart : Language → List ℕ → List ℕ → Type 0
IsOctetsPart language octets part = (IsLinked octets × (part ≡ link_part (address_of octets) octets)) ⊎ ((IsLinked octets → ⊥) × (part ≡ octets_part language octets))

-- an alias, whose data is a handle and plain
abbrev pub NamesHandle : Value → Type 0
NamesHandle v = (is_of (codes "HS_ALIAS") v ≡ true) × IsHandle v.bytes × (is_plain v.bytes ≡ true)

-- the handle that it names, which leads to the page of that handle's own values
unfoldable pub alias_link : List ℕ → List ℕ
alias_link name = codes "<p class=\"data\">" ++ (handle_link name ++ codes "</p>\n")

-- an alias that names a handle is a link to it, and any other value's octets stand by themselves
abbrev pub IsTextPart : Language → Value → List ℕ → Type 0
IsTextPart language v part = (NamesHandle v × (part ≡ alias_link v.bytes)) ⊎ (¬ (NamesHandle v) × IsOctetsPart language v.bytes part)

-- what the data is: an administrator, a list of references, or text
abbrev pub IsDataPart : Language → Value → List ℕ → Type 0
IsDataPart language v part =
    MatchOption (admin_read v)
    (MatchOption (list_read v) (IsTextPart language v part) (λ rs. part ≡ flat_map reference_part rs))
    (λ x. part ≡ admin_part language x)

-- ---- when a value was written

-- the day, and the moment for programs
unfoldable pub moment_part : Language → List ℕ → List ℕ
moment_part language moment =
    phrase_part language (codes "<p class=\"written\">") phrases.Written (codes " <time datetime=\"") ++ (escaped moment ++ element (codes "\">") (day_of moment) (codes "</time></p>\n"))

-- a timestamp of 0 says nothing
abbrev pub written_part : Language → ℕ → Option (List ℕ) → List ℕ
written_part language timestamp None = []
written_part language timestamp (Some moment) = if timestamp == 0 then [] else moment_part language moment

abbrev pub IsWrittenPart : Language → Value → List ℕ → Type 0
IsWrittenPart language v part = (written : Option (List ℕ)) × IsWritten v written × (part ≡ written_part language v.timestamp written)

-- ---- a value, and all of them

unfoldable pub heading : Value → List ℕ
heading v = codes "<tr><th scope=\"row\"><bdi>" ++ (escaped v.kind ++ (codes "</bdi> <small>" ++ (escaped (decimal v.index) ++ codes "</small></th>\n<td>")))

-- what a page says of a value
abbrev pub IsSection : Language → Value → List ℕ → Type 0
IsSection language v section =
    (data_part : List ℕ) × (written : List ℕ) × IsDataPart language v data_part × IsWrittenPart language v written
    × (section ≡ heading v ++ (data_part ++ (written ++ codes "</td></tr>\n")))

-- a section for each value, in order; or that there is none
abbrev pub IsSections : Language → List Value → List ℕ → Type 0
IsSections language values part = (sections : List (List ℕ)) × AllZip (IsSection language) values sections × (part ≡ concat sections)

-- whether it is put among the URLs, or among the others
abbrev pub is_put : Bool → Value → Bool
is_put are_urls v = if are_urls then is_url v else not (is_url v)

-- the row of a value, where it is put
abbrev pub IsRow : Language → Bool → Value → List ℕ → Type 0
IsRow language put v part = ((put ≡ true) × IsSection language v part) ⊎ ((put ≡ false) × (part ≡ []))

-- the head of a table, behind the front of its tag
unfoldable pub columns : Language → List ℕ → List ℕ
columns language front =
    phrase_part language front phrases.WhatIsKnown (codes "\">\n") ++ (phrase_part language (codes "<thead><tr><th scope=\"col\">") phrases.TypeAndIndex (codes "</th>")
    ++ phrase_part language (codes "<th scope=\"col\">") phrases.Value (codes "</th></tr></thead>\n"))

-- a table of a few: the URLs, and then the others
abbrev pub IsFew : Language → List Value → List ℕ → Type 0
IsFew language values part =
    (urls : List ℕ) × (others : List ℕ) × IsSections language (filter (is_put true) values) urls × IsSections language (filter (is_put false) values) others
    × (part ≡ columns language (codes "<table aria-label=\"") ++ (codes "<tbody>\n" ++ (urls ++ (others ++ END.now))))

-- a group: a type, and the rows of all values of it
unfoldable pub group_head : List ℕ → List ℕ
group_head kind = element (codes "<tbody>\n<tr class=\"type\"><th colspan=\"2\" scope=\"rowgroup\"><bdi>") kind (codes "</bdi></th></tr>\n")

abbrev pub IsGroup : Language → List Value → List ℕ → List ℕ → Type 0
IsGroup language values kind part =
    (rows : List ℕ) × IsSections language (filter (is_of kind) values) rows × (part ≡ group_head kind ++ (rows ++ codes "</tbody>\n"))

-- the group of a value's type, where it is put and none of these is of this type
abbrev pub is_head : Bool → List Value → Value → Bool
is_head are_urls before v = is_put are_urls v && not (list_any (is_of v.kind) before)

abbrev pub IsGroupAt : Language → Bool → List Value → List Value → Value → List ℕ → Type 0
IsGroupAt language are_urls values before v part =
    ((is_head are_urls before v ≡ true) × IsGroup language values v.kind part) ⊎ ((is_head are_urls before v ≡ false) × (part ≡ []))

-- the groups of those that are left, behind these
abbrev pub IsGroupsFrom : Language → Bool → List Value → List Value → List Value → List ℕ → Type 0
IsGroupsFrom language are_urls values before [] part = part ≡ []
IsGroupsFrom language are_urls values before (v ∷ left) part =
    (group : List ℕ) × (others : List ℕ) × IsGroupAt language are_urls values before v group × IsGroupsFrom language are_urls values (before ++ v ∷ []) left others × (part ≡ group ++ others)

-- a table of many, by their types: URLs, and then the others, each type where its first value stands
abbrev pub IsMany : Language → List Value → List ℕ → Type 0
IsMany language values part =
    (urls : List ℕ) × (others : List ℕ) × IsGroupsFrom language true values [] values urls × IsGroupsFrom language false values [] values others
    × (part ≡ columns language (codes "<table class=\"types\" aria-label=\"") ++ (urls ++ (others ++ codes "</table>\n")))

abbrev pub IsTable : Language → List Value → List ℕ → Type 0
IsTable language values part = ((length values < 20) × IsFew language values part) ⊎ ((20 ≤ length values) × IsMany language values part)

abbrev pub IsValuesPart : Language → List Value → List ℕ → Type 0
IsValuesPart language values part =
    ((values ≡ []) × (part ≡ phrase_part language (codes "<p>") phrases.NothingPublic (codes "</p>\n"))) ⊎ ((0 < length values) × IsTable language values part)

-- the page of these values of this handle, and what is wrong
abbrev pub IsPageOf : Language → List ℕ → Note → List Value → List ℕ → Type 0
IsPageOf language handle note values body =
    (part : List ℕ) × IsValuesPart language values part
    × (body ≡ name_top handle ++ (note_part language note ++ (part ++ (another_part language ++ json_part language handle))))

-- ---- a handle that is gone

-- a link to what is known about it
unfoldable pub known_part : Language → List ℕ → List ℕ
known_part language name =
    codes "<p><small><a href=\"" ++ (escaped (path_to_values name) ++ phrase_part language (codes "\">") phrases.KnownAboutIt (codes "</a></small></p>\n"))

-- the page that says so: why, and when that was written
abbrev pub IsGonePage : Language → List ℕ → Value → List ℕ → Type 0
IsGonePage language handle gone body =
    (why : List ℕ) × (written : List ℕ) × IsDataPart language gone why × IsWrittenPart language gone written
    × (body ≡ top (words language phrases.GoneHeading) ++ (name_part handle ++ (why ++ (written ++ (another_part language ++ known_part language handle)))))

-- ---- a refusal

-- its title, by the code
abbrev pub lead_word : ℕ → Phrase
lead_word code =
    if (code == HANDLE_NOT_FOUND) || (code == SERVICE_REFERRAL) then phrases.NotFoundTitle
    else if code == INVALID_HANDLE then phrases.NoHandleTitle
    else if code == VALUE_NOT_FOUND then phrases.NotPublicTitle
    else if code == OPERATION_DENIED then phrases.NotDoneTitle
    else if code == TOO_FAR then phrases.LeadsNowhereTitle
    else phrases.NoAnswerTitle

abbrev pub refusal_title : Language → ℕ → List ℕ → List ℕ
refusal_title language code asked = words language (lead_word code) ++ asked

-- what to do, and the way to another handle
unfoldable pub advice_part : Language → ℕ → List ℕ → List ℕ
advice_part language code asked = element (codes "<p>") (words language (advice code asked)) (codes "</p>\n") ++ another_part language

-- the page that says why there are no values, and what to do
unfoldable pub refusal_page : Language → List ℕ → ℕ → List ℕ → List ℕ
refusal_page language asked code why = top why ++ (name_part asked ++ advice_part language code asked)

-- ---- a way

-- the page that a browser leaves at once, by a link to where it is led
unfoldable pub redirect_page : List ℕ → List ℕ → List ℕ
redirect_page title to =
    codes "<!DOCTYPE html>\n<meta charset=\"utf-8\">\n<title>" ++ (escaped title ++ (codes "</title>\n<a href=\"" ++ (escaped to ++ (codes "\">" ++ (escaped to ++ codes "</a>\n")))))
