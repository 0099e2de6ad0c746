-- What the pages say, in each language.
use Rattle.std.specs.Prelude.{ℕ, List}
use Rattle.hdl_languages.specs.declared.english.TheConstants as english
use Rattle.hdl_languages.specs.declared.german.TheConstants as german
use Rattle.hdl_languages.specs.declared.language.Language.{Language}
use Rattle.hdl_languages.specs.declared.language.Language.TheVariants.{English, German}
use Rattle.hdl_languages.specs.declared.phrase.Phrase.{Phrase}
use Rattle.hdl_languages.specs.declared.phrase.Phrase.TheVariants as phrases

-- the one of two texts that is of this language
abbrev pub choose : Language → List ℕ → List ℕ → List ℕ
choose English in_english in_german = in_english
choose German in_english in_german = in_german

abbrev pub words_by : Phrase → Language → List ℕ
words_by phrases.LanguageTag language = choose language english.LANGUAGE_TAG.now german.LANGUAGE_TAG.now
words_by phrases.Questions language = choose language english.QUESTIONS.now german.QUESTIONS.now
words_by phrases.FindAnother language = choose language english.FIND_ANOTHER.now german.FIND_ANOTHER.now
words_by phrases.FindAHandle language = choose language english.FIND_A_HANDLE.now german.FIND_A_HANDLE.now
words_by phrases.AsYouFoundIt language = choose language english.AS_YOU_FOUND_IT.now german.AS_YOU_FOUND_IT.now
words_by phrases.GoToIt language = choose language english.GO_TO_IT.now german.GO_TO_IT.now
words_by phrases.WhatAHandleIs language = choose language english.WHAT_A_HANDLE_IS.now german.WHAT_A_HANDLE_IS.now
words_by phrases.HowToSeeValues language = choose language english.HOW_TO_SEE_VALUES.now german.HOW_TO_SEE_VALUES.now
words_by phrases.WhatIsKnown language = choose language english.WHAT_IS_KNOWN.now german.WHAT_IS_KNOWN.now
words_by phrases.TypeAndIndex language = choose language english.TYPE_AND_INDEX.now german.TYPE_AND_INDEX.now
words_by phrases.Value language = choose language english.VALUE.now german.VALUE.now
words_by phrases.Written language = choose language english.WRITTEN.now german.WRITTEN.now
words_by phrases.NothingPublic language = choose language english.NOTHING_PUBLIC.now german.NOTHING_PUBLIC.now
words_by phrases.AsJson language = choose language english.AS_JSON.now german.AS_JSON.now
words_by phrases.NotText language = choose language english.NOT_TEXT.now german.NOT_TEXT.now
words_by phrases.NoUrl language = choose language english.NO_URL.now german.NO_URL.now
words_by phrases.UrlUnfollowed language = choose language english.URL_UNFOLLOWED.now german.URL_UNFOLLOWED.now
words_by phrases.LocationsUnread language = choose language english.LOCATIONS_UNREAD.now german.LOCATIONS_UNREAD.now
words_by phrases.LocationUnfollowed language = choose language english.LOCATION_UNFOLLOWED.now german.LOCATION_UNFOLLOWED.now
words_by phrases.WhoMayChange language = choose language english.WHO_MAY_CHANGE.now german.WHO_MAY_CHANGE.now
words_by phrases.HolderOfKey language = choose language english.HOLDER_OF_KEY.now german.HOLDER_OF_KEY.now
words_by phrases.May language = choose language english.MAY.now german.MAY.now
words_by phrases.CreateHandles language = choose language english.CREATE_HANDLES.now german.CREATE_HANDLES.now
words_by phrases.DeleteHandles language = choose language english.DELETE_HANDLES.now german.DELETE_HANDLES.now
words_by phrases.ListHandles language = choose language english.LIST_HANDLES.now german.LIST_HANDLES.now
words_by phrases.ReadHidden language = choose language english.READ_HIDDEN.now german.READ_HIDDEN.now
words_by phrases.AddValues language = choose language english.ADD_VALUES.now german.ADD_VALUES.now
words_by phrases.ChangeValues language = choose language english.CHANGE_VALUES.now german.CHANGE_VALUES.now
words_by phrases.RemoveValues language = choose language english.REMOVE_VALUES.now german.REMOVE_VALUES.now
words_by phrases.AddAdministrators language = choose language english.ADD_ADMINISTRATORS.now german.ADD_ADMINISTRATORS.now
words_by phrases.ChangeAdministrators language = choose language english.CHANGE_ADMINISTRATORS.now german.CHANGE_ADMINISTRATORS.now
words_by phrases.RemoveAdministrators language = choose language english.REMOVE_ADMINISTRATORS.now german.REMOVE_ADMINISTRATORS.now
words_by phrases.GoneTitle language = choose language english.GONE_TITLE.now german.GONE_TITLE.now
words_by phrases.GoneHeading language = choose language english.GONE_HEADING.now german.GONE_HEADING.now
words_by phrases.KnownAboutIt language = choose language english.KNOWN_ABOUT_IT.now german.KNOWN_ABOUT_IT.now
words_by phrases.NotFoundTitle language = choose language english.NOT_FOUND_TITLE.now german.NOT_FOUND_TITLE.now
words_by phrases.NoHandleTitle language = choose language english.NO_HANDLE_TITLE.now german.NO_HANDLE_TITLE.now
words_by phrases.NotPublicTitle language = choose language english.NOT_PUBLIC_TITLE.now german.NOT_PUBLIC_TITLE.now
words_by phrases.NotDoneTitle language = choose language english.NOT_DONE_TITLE.now german.NOT_DONE_TITLE.now
words_by phrases.LeadsNowhereTitle language = choose language english.LEADS_NOWHERE_TITLE.now german.LEADS_NOWHERE_TITLE.now
words_by phrases.NoAnswerTitle language = choose language english.NO_ANSWER_TITLE.now german.NO_ANSWER_TITLE.now
words_by phrases.NotThere language = choose language english.NOT_THERE.now german.NOT_THERE.now
words_by phrases.ServerSaysNoHandle language = choose language english.SERVER_SAYS_NO_HANDLE.now german.SERVER_SAYS_NO_HANDLE.now
words_by phrases.NoSuchValue language = choose language english.NO_SUCH_VALUE.now german.NO_SUCH_VALUE.now
words_by phrases.NoSuchPrefix language = choose language english.NO_SUCH_PREFIX.now german.NO_SUCH_PREFIX.now
words_by phrases.Busy language = choose language english.BUSY.now german.BUSY.now
words_by phrases.CouldNotAnswer language = choose language english.COULD_NOT_ANSWER.now german.COULD_NOT_ANSWER.now
words_by phrases.NoServerAnswered language = choose language english.NO_SERVER_ANSWERED.now german.NO_SERVER_ANSWERED.now
words_by phrases.NameTooLong language = choose language english.NAME_TOO_LONG.now german.NAME_TOO_LONG.now
words_by phrases.NameNotUtf8 language = choose language english.NAME_NOT_UTF8.now german.NAME_NOT_UTF8.now
words_by phrases.NameWithoutSlash language = choose language english.NAME_WITHOUT_SLASH.now german.NAME_WITHOUT_SLASH.now
words_by phrases.NameOfBadSegment language = choose language english.NAME_OF_BAD_SEGMENT.now german.NAME_OF_BAD_SEGMENT.now
words_by phrases.NameWithoutMemory language = choose language english.NAME_WITHOUT_MEMORY.now german.NAME_WITHOUT_MEMORY.now
words_by phrases.BadIndex language = choose language english.BAD_INDEX.now german.BAD_INDEX.now
words_by phrases.OtherMethod language = choose language english.OTHER_METHOD.now german.OTHER_METHOD.now
words_by phrases.LookAtSlash language = choose language english.LOOK_AT_SLASH.now german.LOOK_AT_SLASH.now
words_by phrases.LookAgain language = choose language english.LOOK_AGAIN.now german.LOOK_AGAIN.now
words_by phrases.HandleForm language = choose language english.HANDLE_FORM.now german.HANDLE_FORM.now
words_by phrases.SelectOthers language = choose language english.SELECT_OTHERS.now german.SELECT_OTHERS.now
words_by phrases.FollowLink language = choose language english.FOLLOW_LINK.now german.FOLLOW_LINK.now
words_by phrases.TellGiver language = choose language english.TELL_GIVER.now german.TELL_GIVER.now
words_by phrases.ComeBack language = choose language english.COME_BACK.now german.COME_BACK.now
words_by phrases.DidYouMean language = choose language english.DID_YOU_MEAN.now german.DID_YOU_MEAN.now
words_by phrases.IsAlias language = choose language english.IS_ALIAS.now german.IS_ALIAS.now
words_by phrases.AnAlias language = choose language english.AN_ALIAS.now german.AN_ALIAS.now
words_by phrases.LeadsNowhere language = choose language english.LEADS_NOWHERE.now german.LEADS_NOWHERE.now
words_by phrases.InACircle language = choose language english.IN_A_CIRCLE.now german.IN_A_CIRCLE.now
words_by phrases.BeyondTen language = choose language english.BEYOND_TEN.now german.BEYOND_TEN.now
words_by phrases.LinkToChange language = choose language english.LINK_TO_CHANGE.now german.LINK_TO_CHANGE.now
words_by phrases.LinkToChangeAny language = choose language english.LINK_TO_CHANGE_ANY.now german.LINK_TO_CHANGE_ANY.now
words_by phrases.LinkToCreate language = choose language english.LINK_TO_CREATE.now german.LINK_TO_CREATE.now
words_by phrases.LinkToList language = choose language english.LINK_TO_LIST.now german.LINK_TO_LIST.now

-- a phrase in this language
unfoldable pub words : Language → Phrase → List ℕ
words language phrase = words_by phrase language
