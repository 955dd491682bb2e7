-- What a text stands for, and the five reasons for which it stands for none: the four subjects in
-- one place.
pub use Rattle.core_reader.specs.Words.{digits_from, has_minus, written_number, IsInRange, sign_token, keyword_of, number_in, keyword_or_name, said_by, said}
pub use Rattle.core_reader.specs.Names.{is_numbered_by, is_numbered, with_name, with_piece, names_of}
pub use Rattle.core_reader.specs.Programs.{IsProgram, IsText, Viable}
pub use Rattle.core_reader.specs.Rules.{BeginsWith, IsBadByte, IsSyntaxFault, AtToken, AtEnd, IsOutOfRange, IsTooDeep, IsUnread, BadByte, Syntax, NumberRange, TooDeep, TextTooLong, IsNoLaterFault, IsFirstUnread, IsCause, IsUnbroken}
